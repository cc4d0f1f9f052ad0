-- Lists in which some elements are like others.
use Rattle.std.specs.Prelude.{Bool, not, List, [], ◌∷◌, filter, nat_lt}
use Rattle.std.specs.List.{count_by, position_from}
use Rattle.std.specs.Option.{option_cmp}
use Rattle.std.specs.Ordering.{nat_cmp, on}
use Rattle.std.specs.declared.cmp.Ordering.{Ordering}

-- those that are like no earlier one: the first, and the firsts of the others that aren't like it
abbrev pub firsts : {A : Type 0} → (A → A → Bool) → List A → List A
firsts is_like [] = []
firsts is_like (x ∷ xs) = x ∷ filter (λ y. not (is_like y x)) (firsts is_like xs)

-- whether at least two are like it, itself and another
abbrev pub is_shared : {A : Type 0} → (A → A → Bool) → List A → A → Bool
is_shared is_like xs x = nat_lt 1 (count_by (is_like x) xs)

-- the order of the places at which the first stand that they are like
abbrev pub first_order : {A : Type 0} → (A → A → Bool) → List A → A → A → Ordering
first_order is_like xs = on (λ x. position_from (is_like x) 0 xs) (option_cmp nat_cmp)
