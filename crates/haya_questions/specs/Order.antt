-- The order of hits by the values at places.
use Rattle.std.specs.Prelude.{ℕ, Bool, true, false, List, [], ◌∷◌, Option, None, Some, if◌then◌else◌, map}
use Rattle.std.specs.Cmp.Lexicographic.{slice_cmp}
use Rattle.std.specs.Option.{option_cmp}
use Rattle.std.specs.Ordering.{bool_cmp, flip_args, nat_cmp, on, then_cmp}
use Rattle.std.specs.declared.cmp.Ordering.{Ordering}
use Rattle.std.specs.declared.cmp.Ordering.TheVariants.{Equal}
use Rattle.haya_numbers.specs.Numeric.{NumericView, csl_order}
use Rattle.haya_numbers.specs.Pages.{PartView}
use Rattle.haya_numbers.specs.PagesOrder.{pages_order}
use Rattle.haya_people.specs.Orders.{person_cmp, text_cmp}
use Rattle.haya_people.specs.Particles.{folded}
use Rattle.haya_people.specs.Person.{PersonView}
use Rattle.haya_time.specs.DateOrder.{date_csl_cmp}
use Rattle.haya_time.specs.DurationOrder.{duration_cmp}
use Rattle.haya_time.specs.declared.date.Date.{Date}
use Rattle.haya_time.specs.declared.duration.Duration.{Duration}
use Rattle.hayagriva.specs.declared.query.Hit.{Hit}
use Rattle.haya_questions.specs.Fields.{values_at}
use Rattle.haya_questions.specs.Place.{PlaceView}
use Rattle.haya_questions.specs.Value.{ValueView, KeyValue, TextValue, UntypedValue, PersonValue, RoleValue, DateValue, NumberValue, PagesValue, DurationValue, RangeValue}
use Rattle.haya_questions.specs.declared.rank.RankKind.{RankKind}
use Rattle.haya_questions.specs.declared.rank.RankKind.TheVariants as kind

-- ---- values

-- how many kinds of values are sorted before this one
abbrev pub kinds_before : RankKind → ℕ
kinds_before kind.Date = 0
kinds_before kind.Number = 1
kinds_before kind.Pages = 2
kinds_before kind.Duration = 3
kinds_before kind.Person = 4
kinds_before kind.Text = 5
kinds_before kind.Untyped = 6

-- what a value is sorted by: its kind, and what it is, or nothing
pub record Rank : Type 0 where
  pub kind : RankKind
  pub date : Option Date
  pub number : Option NumericView
  pub pages : Option (List PartView)
  pub duration : Option Duration
  pub person : Option PersonView
  pub fold : Option (List ℕ)
  pub text : Option (List ℕ)

-- the rank of a kind alone
abbrev pub of_kind : RankKind → Rank
of_kind kind = record {
  kind = kind;
  date = None;
  number = None;
  pages = None;
  duration = None;
  person = None;
  fold = None;
  text = None;
}

abbrev pub duration_rank : Duration → Rank
duration_rank duration = record (of_kind kind.Duration) { duration = Some duration }

abbrev pub person_rank : PersonView → Rank
person_rank person = record (of_kind kind.Person) { person = Some person }

-- a text by its default case fold, and then by itself
abbrev pub text_rank : List ℕ → Rank
text_rank text = record (of_kind kind.Text) { fold = Some (folded text); text = Some text }

-- A range of time is sorted by its start, and a text in the place of a number or a time by itself,
-- behind all of them.
unfoldable pub rank_of : ValueView → Rank
rank_of (DateValue date) = record (of_kind kind.Date) { date = Some date }
rank_of (NumberValue number) = record (of_kind kind.Number) { number = Some number }
rank_of (PagesValue pages) = record (of_kind kind.Pages) { pages = Some pages }
rank_of (DurationValue duration) = duration_rank duration
rank_of (RangeValue range) = duration_rank range.start
rank_of (PersonValue person) = person_rank person
rank_of (RoleValue role person) = person_rank person
rank_of (TextValue text) = text_rank text
rank_of (KeyValue text) = text_rank text
rank_of (UntypedValue text) = record (of_kind kind.Untyped) { text = Some text }

-- dates, numbers and pages as citation styles have them
abbrev pub counted_order : Rank → Rank → Ordering
counted_order =
    then_cmp (on (λ r. r.date) (option_cmp date_csl_cmp))
    (then_cmp (on (λ r. r.number) (option_cmp csl_order))
    (on (λ r. r.pages) (option_cmp pages_order)))

-- by kind, and then dates, numbers and pages
abbrev pub typed_order : Rank → Rank → Ordering
typed_order = then_cmp (on (λ r. kinds_before r.kind) nat_cmp) counted_order

-- durations by length, persons by the parts of their names, texts by their bytes
abbrev pub named_order : Rank → Rank → Ordering
named_order =
    then_cmp (on (λ r. r.duration) (option_cmp duration_cmp))
    (then_cmp (on (λ r. r.person) (option_cmp person_cmp))
    (then_cmp (on (λ r. r.fold) (option_cmp text_cmp))
    (on (λ r. r.text) (option_cmp text_cmp))))

unfoldable pub rank_order : Rank → Rank → Ordering
rank_order = then_cmp typed_order named_order

-- ---- lists of values

-- whether there is no value
abbrev pub is_missing : List Rank → Bool
is_missing [] = true
is_missing (r ∷ rs) = false

-- value by value, or the other way round; a first part comes before the longer
abbrev pub directed : Bool → List Rank → List Rank → Ordering
directed is_reversed =
    if is_reversed then flip_args (slice_cmp rank_order) else slice_cmp rank_order

-- whichever way, no value comes last
unfoldable pub ranks_order : Bool → List Rank → List Rank → Ordering
ranks_order is_reversed = then_cmp (on is_missing bool_cmp) (directed is_reversed)

-- ---- hits

-- a key of a sort by value: a place, and whether its order is turned round
pub record SortKeyView : Type 0 where
  pub place : PlaceView
  pub is_reversed : Bool

-- what a hit is sorted by at a place
abbrev pub ranks_at : PlaceView → Hit → List Rank
ranks_at place hit = map rank_of (values_at place hit)

-- the order of hits by the values at a place
abbrev pub key_order : SortKeyView → Hit → Hit → Ordering
key_order key = on (ranks_at key.place) (ranks_order key.is_reversed)

abbrev pub all_tied : {A : Type 0} → A → A → Ordering
all_tied a b = Equal

-- by the first key in which they differ
abbrev pub hit_order : List SortKeyView → Hit → Hit → Ordering
hit_order [] = all_tied
hit_order (key ∷ keys) = then_cmp (key_order key) (hit_order keys)
