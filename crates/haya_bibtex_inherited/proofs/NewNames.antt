-- Names under which others are looked up.
use Rattle.std.proofs.Common.{◌≡◌, ℕ, Bool, true, false, cond, List, [], ◌∷◌, ◌++◌, Option, Some, None}
use Rattle.std.specs.Str.{bytes_eq}
use Rattle.haya_bibtex_inherited.specs.Changes.{NewNames, name_under}

-- a name of the first list, or of the second
pub name_under-first : (xs ys : NewNames) (n m : List ℕ) → Some m ≡ name_under xs n → Some m ≡ name_under (xs ++ ys) n
name_under-first [] ys n m e = absurd (cc)
name_under-first (r ∷ xs) ys n m e = by (name_under-first xs ys n m) (bytes_eq n r.0) e where
  by : (Some m ≡ name_under xs n → Some m ≡ name_under (xs ++ ys) n) → (b : Bool) → Some m ≡ cond b (Some r.1) (name_under xs n) → Some m ≡ cond b (Some r.1) (name_under (xs ++ ys) n)
  by more true h = h
  by more false h = more h

pub name_under-second : (xs ys : NewNames) (n : List ℕ) (r : Option (List ℕ)) → None ≡ name_under xs n → r ≡ name_under ys n → r ≡ name_under (xs ++ ys) n
name_under-second [] ys n r e is = is
name_under-second (x ∷ xs) ys n r e is = by (λ h. name_under-second xs ys n r h is) (bytes_eq n x.0) e where
  by : (None ≡ name_under xs n → r ≡ name_under (xs ++ ys) n) → (b : Bool) → None ≡ cond b (Some x.1) (name_under xs n) → r ≡ cond b (Some x.1) (name_under (xs ++ ys) n)
  by more true h = absurd (cc)
  by more false h = more h
