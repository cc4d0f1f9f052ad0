-- Lists that are walked item by item: what is behind a place.
use Rattle.std.proofs.Common.{◌≡◌, ◌+◌, ◌-◌, ◌^◌, ◌<◌, ◌++◌, min, ◌∷◌, [], ℕ, zero, suc, List, Some, length, map, drop, get_or, refl, ap, ◌∙◌, arith, add-one}
use Rattle.std.specs.Prelude.{Option, None, true, false, flat_map, is_some, option_map, slice_get}
use Rattle.std.specs.List.{cons_option, filter_map}
use Rattle.std.proofs.lemmas.List.{length-map}
use Rattle.std.proofs.lemmas.List.Concat.{flat_map-cons}
use Rattle.std.proofs.lemmas.Option.{slice_get-get_or, slice_get-map}
use Rattle.haya_entry.proofs.LevelLemmas.{from_place}
use Rattle.haya_people.specs.Person.{person_view}
use Rattle.haya_people.specs.Roles.{roles_view}
use Rattle.haya_people.specs.declared.role.PersonsWithRoles.{PersonsWithRoles}
use Rattle.haya_views.specs.Persons.{with_role}

-- an item's value, and those behind it
pub from_item : {X Y : Type 0} (v : X → Y) (xs : List X) (k : ℕ) (x : X) → k < length xs → get_or xs k x ≡ x → drop k (map v xs) ≡ v x ∷ drop (k + 1) (map v xs)
from_item v xs k x within is =
    rw add-one (from_place (map v xs) k (v x) (slice_get-map v xs k ∙ ap (option_map v) (slice_get-get_or xs k x within ∙ ap Some is)))

-- the items of an item's list, and those of the lists behind it
pub items_from : {X Y Z : Type 0} (f : Y → List Z) (v : X → Y) (xs : List X) (k : ℕ) (x : X) → k < length xs → get_or xs k x ≡ x
    → flat_map f (drop k (map v xs)) ≡ f (v x) ++ flat_map f (drop (k + 1) (map v xs))
items_from f v xs k x within is = ap (flat_map f) (from_item v xs k x within is) ∙ flat_map-cons f (v x) (drop (k + 1) (map v xs))

-- an item of the first of two lists, and one of the second
pub get_first : {X : Type 0} (xs ys : List X) (n : ℕ) → n < length xs → slice_get (xs ++ ys) n ≡ slice_get xs n
get_first [] ys n within = absurd (omega (arith, within))
get_first (x ∷ xs) ys zero within = refl
get_first (x ∷ xs) ys (suc n) within = let less : n < length xs = omega (arith, within) in get_first xs ys n less

pub get_behind : {X : Type 0} (xs ys : List X) (n left : ℕ) → n ≡ length xs + left → slice_get (xs ++ ys) n ≡ slice_get ys left
get_behind [] ys n left e = ap (slice_get ys) (omega (arith, e))
get_behind (x ∷ xs) ys zero left e = absurd (omega (arith, e))
get_behind (x ∷ xs) ys (suc n) left e = let less : n ≡ length xs + left = omega (arith, e) in get_behind xs ys n left less

-- the greatest number that is kept of a sum is that of the sum of what is kept
pub kept_low : (a n rest : ℕ) → min (min (a + n) (2 ^ 64 - 1) + rest) (2 ^ 64 - 1) ≡ min (a + (n + rest)) (2 ^ 64 - 1)
kept_low a n rest = omega arith

pub with_role-length : (r : PersonsWithRoles) → length (with_role (roles_view r)) ≡ length r.names.items
with_role-length r = length-map (map person_view r.names.items) _ ∙ length-map r.names.items person_view

-- an item that is kept, and one that is passed over
pub kept_from : {X Y : Type 0} (h : X → Option Y) (x : X) (xs : List X) (y : Y) → h x ≡ Some y → filter_map h (x ∷ xs) ≡ y ∷ filter_map h xs
kept_from h x xs y e = ap (λ o. cons_option o (filter_map h xs)) e

pub passed_from : {X Y : Type 0} (h : X → Option Y) (x : X) (xs : List X) → h x ≡ None → filter_map h (x ∷ xs) ≡ filter_map h xs
passed_from h x xs e = ap (λ o. cons_option o (filter_map h xs)) e

-- how many are kept with an item
pub one_kept : {Y : Type 0} (o : Option Y) (ys : List Y) → is_some o ≡ true → length (cons_option o ys) ≡ length ys + 1
one_kept (Some y) ys is = rw add-one refl
one_kept None ys is = absurd (cc)

pub none_kept : {Y : Type 0} (o : Option Y) (ys : List Y) → is_some o ≡ false → length (cons_option o ys) ≡ length ys
none_kept (Some y) ys is = absurd (cc)
none_kept None ys is = refl

-- the item behind the first
pub get_next : {Y : Type 0} (y : Y) (ys : List Y) (n left : ℕ) → n ≡ left + 1 → slice_get (y ∷ ys) n ≡ slice_get ys left
get_next y ys n left e = get_behind (y ∷ []) ys n left (omega (arith, e))
