-- The first item of a text.
use Rattle.std.proofs.Common.{◌≡◌, ℕ, ◌+◌, Bool, true, false, List, [], ◌∷◌, length, refl, ap, ◌∙◌, arith}
use Rattle.std.specs.List.{onto_first, position_or_len, slice_split}
use Rattle.std.proofs.lemmas.List.Splits.{slice_split-cons_no}

-- a list in which nothing passes is one part
pub slice_split-whole : (p : ℕ → Bool) (xs : List ℕ) → position_or_len p xs ≡ length xs → slice_split p xs ≡ xs ∷ []
slice_split-whole p [] e = refl
slice_split-whole p (x ∷ xs) e = by (p x) refl (slice_split-whole p xs)
  where
    by : (b : Bool) → p x ≡ b → (position_or_len p xs ≡ length xs → slice_split p xs ≡ xs ∷ []) → slice_split p (x ∷ xs) ≡ (x ∷ xs) ∷ []
    by true h more = let first : position_or_len p (x ∷ xs) ≡ 0 = rw h refl in absurd (omega arith)
    by false h more =
        let later : position_or_len p (x ∷ xs) ≡ 1 + position_or_len p xs = rw h refl in
        slice_split-cons_no p x xs h ∙ ap (onto_first x) (more (omega arith))
