-- The derived `==` tells whether values are equal by value.
use Rattle.std.proofs.Common.{◌≡◌, ℕ, Bool, List, Option, refl, ap, map}
use denote.RattleType.{RattleType}
use Rattle.std.specs.declared.cmp.PartialEq.{Ghosts}
use Rattle.std.specs.Prelude.{string_bytes}
use Rattle.haya_numbers.proofs.Equal.{numeric-tells}
use Rattle.haya_numbers.proofs.PagesEqual.{pages-tell}
use Rattle.haya_numbers.specs.Numeric.{numeric_view}
use Rattle.haya_numbers.specs.Pages.{parts}
use Rattle.haya_numbers.specs.contracts.numeric.Numeric as numeric
use Rattle.haya_numbers.specs.contracts.numeric.NumericPartialEq.TheImpl as numeric_eq
use Rattle.haya_numbers.specs.contracts.page.PageRanges as pages
use Rattle.haya_numbers.specs.contracts.page.PageRangesPartialEq.TheImpl as pages_eq
use Rattle.haya_text.proofs.Tells.{Tells, Same-both, Same-along, lists-tell, options-tell, strings-tell}
use Rattle.haya_text.proofs.Equal.{texts-tell}
use Rattle.haya_text.specs.Texts.{TextView}
use Rattle.haya_time.proofs.DurationOrders.{eq-same, same-eq, range_eq-same, same-range_eq}
use Rattle.haya_time.specs.contracts.duration.Duration as duration
use Rattle.haya_time.specs.contracts.duration.DurationPartialEq.TheImpl as duration_eq
use Rattle.haya_time.specs.contracts.duration.range.DurationRange as range
use Rattle.haya_time.specs.contracts.duration.range.DurationRangePartialEq.TheImpl as range_eq
use Rattle.haya_time.specs.DateEquality.{dates-tell, option-same}
use Rattle.haya_time.specs.declared.date.Date.{Date}
use Rattle.haya_values.specs.contracts.maybe_typed.MaybeTypedPartialEq.TheImpl as maybe_typed
use Rattle.haya_values.specs.contracts.one_or_many.OneOrManyPartialEq.TheImpl as one_or_many
use Rattle.haya_values.specs.contracts.publisher.PublisherPartialEq.TheImpl as publisher
use Rattle.haya_values.specs.contracts.url.QualifiedUrlPartialEq.TheImpl as url
use Rattle.haya_values.specs.declared.maybe_typed.MaybeTyped.{MaybeTyped}
use Rattle.haya_values.specs.declared.maybe_typed.MaybeTyped.TheVariants as maybe
use Rattle.haya_values.specs.MaybeTyped.{Typed, Text, maybe_typed_view}
use Rattle.haya_values.specs.declared.one_or_many.OneOrMany.{OneOrMany}
use Rattle.haya_values.specs.declared.one_or_many.OneOrMany.TheVariants as many
use Rattle.haya_values.specs.OneOrMany.{OneOf, ManyOf, one_or_many_view}
use Rattle.haya_values.specs.Publisher.{publisher_view}
use Rattle.haya_values.specs.Url.{url_view}

-- `==` of values that are typed or a text, by that of the type
abbrev pub maybe_typed_eq : (T : RattleType) → Ghosts T.Denot → MaybeTyped T.Denot → MaybeTyped T.Denot → Bool
maybe_typed_eq T E = (maybe_typed.ghosts T E maybe_typed.no_dict).eq

-- it tells where that of the type does
pub maybe_typed-tells : {V : Type 0} (T : RattleType) (E : Ghosts T.Denot) (view : T.Denot → V) → Tells E.eq view → Tells (maybe_typed_eq T E) (maybe_typed_view view)
maybe_typed-tells T E view t (maybe.Typed a) (maybe.Typed b) = (λ h. ap Typed ((t a b).0 h), λ h. let e : view a ≡ view b = cc in (t a b).1 e)
maybe_typed-tells T E view t (maybe.Typed a) (maybe.String b) = (λ h. cc, λ h. cc)
maybe_typed-tells T E view t (maybe.String a) (maybe.Typed b) = (λ h. cc, λ h. cc)
maybe_typed-tells T E view t (maybe.String a) (maybe.String b) = (λ h. ap Text ((strings-tell a b).0 h), λ h. let e : string_bytes a ≡ string_bytes b = cc in (strings-tell a b).1 e)

-- `==` of one or many values, by that of the type
abbrev pub one_or_many_eq : (T : RattleType) → Ghosts T.Denot → OneOrMany T.Denot → OneOrMany T.Denot → Bool
one_or_many_eq T E = (one_or_many.ghosts T E one_or_many.no_dict).eq

pub one_or_many-tells : {V : Type 0} (T : RattleType) (E : Ghosts T.Denot) (view : T.Denot → V) → Tells E.eq view → Tells (one_or_many_eq T E) (one_or_many_view view)
one_or_many-tells T E view t (many.One a) (many.One b) = (λ h. ap OneOf ((t a.value b.value).0 h), λ h. let e : view a.value ≡ view b.value = cc in (t a.value b.value).1 e)
one_or_many-tells T E view t (many.One a) (many.Vec b) = (λ h. cc, λ h. cc)
one_or_many-tells T E view t (many.Vec a) (many.One b) = (λ h. cc, λ h. cc)
one_or_many-tells T E view t (many.Vec a) (many.Vec b) =
    let same = lists-tell E.eq view t a.items b.items in (λ h. ap ManyOf (same.0 h), λ h. let e : map view a.items ≡ map view b.items = cc in same.1 e)

pub numbers_or_texts-tell : Tells (maybe_typed_eq numeric.the_row numeric_eq.ghosts) (maybe_typed_view numeric_view)
numbers_or_texts-tell = maybe_typed-tells numeric.the_row numeric_eq.ghosts numeric_view numeric-tells

pub pages_or_texts-tell : Tells (maybe_typed_eq pages.the_row pages_eq.ghosts) (maybe_typed_view parts)
pages_or_texts-tell = maybe_typed-tells pages.the_row pages_eq.ghosts parts (pages-tell numeric-tells)

pub durations_or_texts-tell : Tells (maybe_typed_eq duration.the_row duration_eq.ghosts) (maybe_typed_view (λ d. d))
durations_or_texts-tell = maybe_typed-tells duration.the_row duration_eq.ghosts (λ d. d) (λ a b. (eq-same a b, same-eq a b))

pub ranges_or_texts-tell : Tells (maybe_typed_eq range.the_row range_eq.ghosts) (maybe_typed_view (λ r. r))
ranges_or_texts-tell = maybe_typed-tells range.the_row range_eq.ghosts (λ r. r) (λ a b. (range_eq-same a b, same-range_eq a b))

pub urls-tell : Tells url.ghosts.eq url_view
urls-tell a b =
    Same-along _ (λ (p : List ℕ × Option Date). record { value = p.0; visit_date = p.1 }) (λ u. (u.value, u.visit_date)) _ _ refl refl
    (Same-both _ _ _ _ _ _ (strings-tell a.value b.value) (option-same _ dates-tell a.visit_date b.visit_date))

pub publishers-tell : Tells publisher.ghosts.eq publisher_view
publishers-tell a b =
    Same-along _ (λ (p : Option TextView × Option TextView). record { name = p.0; location = p.1 }) (λ p. (p.name, p.location)) _ _ refl refl
    (Same-both _ _ _ _ _ _ (options-tell _ _ texts-tell a.name b.name) (options-tell _ _ texts-tell a.location b.location))
