-- Candidates that are kept.
use Rattle.std.proofs.Common.{◌≡◌, ℕ, Bool, true, false, List, [], ◌∷◌, Some, None, length, map, refl, ap, ◌∙◌, arith}
use Rattle.std.specs.Prelude.{◌==◌, ◌||◌, filter, find, position}
use Rattle.std.specs.List.{list_any}
use Rattle.std.proofs.lemmas.Bool.Decides.{nat_tests}
use Rattle.haya_entry.specs.Names.{has_all}
use Rattle.haya_entry.specs.Tree.{Tree}
use Rattle.haya_selectors.specs.Holds.{kept_places, some_places}
use Rattle.haya_selectors.specs.Places.{places, at_place}
use Rattle.haya_selectors.proofs.Walks.{first_of_all, position-cons}

pub some_of : (is : List ℕ) → (length is == 0) ≡ false → some_places is ≡ Some is
some_of [] e = absurd (grind (arith, nat_tests))
some_of (i ∷ is) e = refl

pub none_of : (is : List ℕ) → (length is == 0) ≡ true → some_places is ≡ None
none_of [] e = refl
none_of (i ∷ is) e = absurd (grind (arith, nat_tests))

pub kept_of_some : (names : List (List ℕ)) (xs : List Tree) (is : List ℕ) → (length is == 0) ≡ false
    → kept_places names xs is ≡ some_places (filter (at_place false (has_all names) xs) is)
kept_of_some names xs [] e = absurd (grind (arith, nat_tests))
kept_of_some names xs (i ∷ is) e = refl

pub any-map : {X Y : Type 0} (test : Y → Bool) (f : X → Y) (xs : List X) → list_any test (map f xs) ≡ list_any (λ x. test (f x)) xs
any-map test f [] = refl
any-map test f (x ∷ xs) = ap (λ b. test (f x) || b) (any-map test f xs)

nothing_first : {X : Type 0} (test : X → Bool) (xs : List X) → list_any test xs ≡ false → position test xs ≡ None
nothing_first test [] e = refl
nothing_first test (x ∷ xs) e = by (nothing_first test xs) (test x) refl where
  by : (list_any test xs ≡ false → position test xs ≡ None) → (b : Bool) → test x ≡ b → position test (x ∷ xs) ≡ None
  by later true h = absurd (let no : true ≡ false = rw h at e in cc)
  by later false h = position-cons test x xs ∙ rw (h, later (rw h at e)) refl

nothing_kept : (test : ℕ → Bool) (is : List ℕ) → find test is ≡ None → filter test is ≡ []
nothing_kept test [] e = refl
nothing_kept test (i ∷ is) e = by (nothing_kept test is) (test i) refl where
  by : (find test is ≡ None → filter test is ≡ []) → (b : Bool) → test i ≡ b → filter test (i ∷ is) ≡ []
  by later true h = absurd (let no : Some i ≡ None = rw h at e in cc)
  by later false h = rw h (later (rw h at e))

-- where no parent has every name, none is kept of all
pub none_kept : (names : List (List ℕ)) (xs : List Tree) → (length xs == 0) ≡ false → list_any (has_all names) xs ≡ false → kept_places names xs (places xs) ≡ None
none_kept names [] l e = absurd (grind (arith, nat_tests))
none_kept names (x ∷ xs) l e =
    let test = at_place false (has_all names) (x ∷ xs) in
    let first : find test (places (x ∷ xs)) ≡ None =
    first_of_all (has_all names) (x ∷ xs) ∙ nothing_first (has_all names) (x ∷ xs) e in
    ap some_places (nothing_kept test (places (x ∷ xs)) first)
