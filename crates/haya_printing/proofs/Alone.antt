-- Lists of one item, and tests of items.
use Rattle.std.proofs.Common.{◌≡◌, Bool, ◌||◌, List, [], ◌∷◌, Some, length, map, ap, refl, slice_get}
use Rattle.std.specs.List.{list_any}

-- a list of one item is its first alone
pub first_alone : {A : Type 0} (xs : List A) (x : A) → length xs ≡ 1 → Some x ≡ slice_get xs 0 → xs ≡ x ∷ []
first_alone [] x one first = cc
first_alone (y ∷ []) x one first = let same : x ≡ y = cc in ap (λ z. z ∷ []) (cc)
first_alone (y ∷ z ∷ xs) x one first = cc

-- a test of what items are read as
pub list_any-map : {A B : Type 0} (test : B → Bool) (f : A → B) (xs : List A) → list_any (λ x. test (f x)) xs ≡ list_any test (map f xs)
list_any-map test f [] = refl
list_any-map test f (x ∷ xs) = ap (λ b. test (f x) || b) (list_any-map test f xs)
