-- The order of persons is total, and agrees with `==`.
use Rattle.std.specs.Prelude.{◌≡◌, Bool, true, false, ◌&&◌, Option, None, Some, String, refl, string_bytes, option_map}
use Rattle.std.proofs.Common.{◌∙◌}
use mathlib.Core.Bool.{beq}
use Rattle.std.specs.Cmp.{IsTotalOrder, bool_cmp_total, both_tied}
use Rattle.std.specs.Cmp.Lexicographic.{options_total, texts_ties}
use Rattle.std.specs.Option.{option_eq}
use Rattle.std.specs.Ordering.{bool_cmp, ordering_then, on, is_eq, eq_by_cmp}
use Rattle.std.specs.String.{string_eq}
use Rattle.std.specs.declared.cmp.Ordering.{Ordering}
use Rattle.std.specs.declared.cmp.Ordering.TheVariants as order
use Rattle.std.proofs.lemmas.Cmp.{nat_list_cmp_total, on_total, then_total}
use Rattle.haya_people.specs.contracts.person.PersonPartialEq.TheImpl as person
use Rattle.haya_people.specs.declared.person.Person.{Person}
use Rattle.haya_people.specs.Person.{PersonView, person_view}
use Rattle.haya_people.specs.Orders.{part_cmp, person_cmp}

parts_total : IsTotalOrder part_cmp
parts_total = options_total nat_list_cmp_total

equal_total : IsTotalOrder {K = PersonView} (λ p q. order.Equal)
equal_total = record { antisymm = λ x y. refl; trans = λ x y z h g. h; congr = λ x y z h. refl }

pub views_total : IsTotalOrder person_cmp
views_total =
    then_total (on_total (λ p. p.name) nat_list_cmp_total)
    (then_total (on_total (λ p. p.given_name) parts_total)
    (then_total (on_total (λ p. p.suffix) parts_total)
    (then_total (on_total (λ p. p.prefix) parts_total)
    (then_total (on_total (λ p. p.comma_suffix) bool_cmp_total)
    (then_total (on_total (λ p. p.alias) parts_total) equal_total)))))

pub persons_total : IsTotalOrder (on person_view person_cmp)
persons_total = on_total person_view views_total

parts_tie : {B : Type 0} (a b : Option (String B))
    → option_eq string_eq a b
    ≡ is_eq (part_cmp (option_map string_bytes a) (option_map string_bytes b))
parts_tie None None = refl
parts_tie None (Some b) = refl
parts_tie (Some a) None = refl
parts_tie (Some a) (Some b) = texts_ties (string_bytes a) (string_bytes b)

swapped : (p s r : Bool) → (p && (s && r)) ≡ (s && (p && r))
swapped true true r = refl
swapped true false r = refl
swapped false true r = refl
swapped false false r = refl

bools_tie : (a b : Bool) → beq a b ≡ is_eq (bool_cmp a b)
bools_tie true true = refl
bools_tie true false = refl
bools_tie false true = refl
bools_tie false false = refl

last_tied : (o : Ordering) → is_eq o ≡ is_eq (ordering_then o order.Equal)
last_tied order.Less = refl
last_tied order.Equal = refl
last_tied order.Greater = refl

pub persons_tie : (a b : Person) → person.ghosts.eq a b ≡ eq_by_cmp (on person_view person_cmp) a b
persons_tie a b =
    both_tied _ _ _ _ (texts_ties (string_bytes a.name) (string_bytes b.name))
    (both_tied _ _ _ _ (parts_tie a.given_name b.given_name)
    (swapped (option_eq string_eq a.prefix b.prefix) _ _
    ∙ both_tied _ _ _ _ (parts_tie a.suffix b.suffix)
    (both_tied _ _ _ _ (parts_tie a.prefix b.prefix)
    (both_tied _ _ _ _ (bools_tie a.comma_suffix b.comma_suffix)
    (parts_tie a.alias b.alias ∙ last_tied _)))))
