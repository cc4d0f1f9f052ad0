-- The lines of a text behind its first.
use Rattle.std.proofs.Common.{◌≡◌, ℕ, suc, ◌+◌, ◌-◌, ◌<◌, Bool, true, false, cond, List, [], ◌∷◌, drop, length, refl, sym, ◌∙◌, arith}
use Rattle.std.specs.Prelude.{◌==◌, slice_index}
use Rattle.std.specs.List.{onto_first, slice_split}
use Rattle.std.specs.Str.Lines.{lines, lines_of_parts, strip_carriage_return}
use Rattle.haya_line_slices.specs.EntryLines.{BeginNone, begins_entry}
use Rattle.haya_line_slices.specs.Scan.{behind_first}
use Rattle.haya_line_slices.proofs.Starts.{begins-line, first_of, is_feed, not-zero}

pub record IsSome {X : Type 0} (xs : List X) : Type 0 where
  pub first : X
  pub rest : List X
  pub is : xs ≡ first ∷ rest

onto-some : (b : ℕ) (ps : List (List ℕ)) → IsSome (onto_first b ps)
onto-some b [] = record { first = b ∷ []; rest = []; is = refl }
onto-some b (p ∷ ps) = record { first = b ∷ p; rest = ps; is = refl }

split-some : (bs : List ℕ) → IsSome (slice_split is_feed bs)
split-some [] = record { first = []; rest = []; is = refl }
split-some (b ∷ bs) = by (is_feed b) (slice_split is_feed bs)
  where
    by : (c : Bool) (ps : List (List ℕ)) → IsSome (cond c ([] ∷ ps) (onto_first b ps))
    by true ps = record { first = []; rest = ps; is = refl }
    by false ps = onto-some b ps

-- behind a line feed are the lines of what is behind it
lines-feed : (x : ℕ) (xs : List ℕ) → is_feed x ≡ true
    → lines (x ∷ xs) ≡ strip_carriage_return [] ∷ lines xs
lines-feed x xs h =
    let s = split-some xs in
    rw h
    (rw s.is refl)

single : (q : List ℕ) → behind_first (lines_of_parts (q ∷ [])) ≡ []
single q = by (length q == 0) refl
  where
    by : (b : Bool) → (length q == 0) ≡ b → behind_first (lines_of_parts (q ∷ [])) ≡ []
    by true h = rw h refl
    by false h = rw h refl

-- what the first part is doesn't matter for what is behind it
behind-parts : (p q : List ℕ) (ps : List (List ℕ))
    → behind_first (lines_of_parts (p ∷ ps)) ≡ behind_first (lines_of_parts (q ∷ ps))
behind-parts p q [] = single p ∙ sym (single q)
behind-parts p q (r ∷ ps) = refl

behind-letter : (x : ℕ) (xs : List ℕ) → is_feed x ≡ false
    → behind_first (lines (x ∷ xs)) ≡ behind_first (lines xs)
behind-letter x xs h =
    let s = split-some xs in
    rw h (rw s.is (behind-parts (x ∷ s.first) s.first s.rest))

-- a text that isn't empty has a line
pub lines-some : (x : ℕ) (xs : List ℕ) → IsSome (lines (x ∷ xs))
lines-some x xs = by (is_feed x) refl
  where
    of_parts : (q : List ℕ) (qs : List (List ℕ)) → IsSome (lines_of_parts ((x ∷ q) ∷ qs))
    of_parts q [] = record { first = x ∷ q; rest = []; is = rw (not-zero (length (x ∷ q)) (omega arith)) refl }
    of_parts q (r ∷ qs) = record { first = strip_carriage_return (x ∷ q); rest = lines_of_parts (r ∷ qs); is = refl }

    by : (b : Bool) → is_feed x ≡ b → IsSome (lines (x ∷ xs))
    by true h = record { first = strip_carriage_return []; rest = lines xs; is = lines-feed x xs h }
    by false h =
        let s = split-some xs in
        let o = of_parts s.first s.rest in
        record { first = o.first; rest = o.rest; is = rw h (rw s.is o.is) }

-- ---- no entry begins behind the first line

pub all-lines : (ls : List (List ℕ)) → begins_entry (first_of ls) ≡ false
    → BeginNone (behind_first ls) → BeginNone ls
all-lines [] first behind = tt
all-lines (l ∷ ls) first behind = (first, behind)

abbrev pub NoneWithin : List ℕ → Type 0
NoneWithin p = (k : ℕ) → k + 1 < length p → slice_index p k ≡ 10 → begins_entry (drop (k + 1) p) ≡ false

none-behind : (x : ℕ) (xs : List ℕ) → NoneWithin (x ∷ xs) → NoneWithin xs
none-behind x xs none = λ k before feed.
    let on : (k + 1) + 1 ≡ suc (k + 1) = omega arith in
    let at : k + 1 ≡ suc k = omega arith in
    let there : slice_index (x ∷ xs) (k + 1) ≡ 10 = rw at feed in
    let h = none (k + 1) (omega (arith, before)) there in
    (rw on at h)

pub none-later : (p : List ℕ) → NoneWithin p → BeginNone (behind_first (lines p))
none-later [] none = tt
none-later (x ∷ xs) none = by (is_feed x) refl (none-later xs (none-behind x xs none))
  where
    here : (ys : List ℕ) → xs ≡ ys → is_feed x ≡ true → BeginNone (behind_first (lines xs)) → BeginNone (lines xs)
    here [] e h more = rw e tt
    here (y ∷ ys) e h more =
        let feed : x ≡ 10 = grind (arith, h) in
        let longer : 0 + 1 < length (x ∷ xs) = rw e (omega arith) in
        let first : begins_entry xs ≡ false = none 0 longer feed in
        all-lines (lines xs) (sym (begins-line xs) ∙ first) more

    by : (b : Bool) → is_feed x ≡ b → BeginNone (behind_first (lines xs)) → BeginNone (behind_first (lines (x ∷ xs)))
    by true h more = rw (lines-feed x xs h) (here xs refl h more)
    by false h more = rw (behind-letter x xs h) more
