-- Lines have no line feed, and those in front of the first entry say none.
use Rattle.std.proofs.Common.{◌≡◌, ℕ, zero, suc, ◌-◌, ◌<◌, ◌==◌, Bool, true, false, cond, List, [], ◌∷◌, ◌++◌, length, take, get_or, map, refl, ap, ◌∙◌, subst, arith}
use Rattle.std.specs.Prelude.{filter, not}
use Rattle.std.specs.List.{AllByRecursion, onto_first, slice_split}
use Rattle.std.specs.Str.Lines.{lines, lines_of_parts, strip_carriage_return}
use Rattle.std.proofs.lemmas.Bool.Decides.{nat_tests}
use Rattle.haya_entry.specs.Tree.{Tree}
use Rattle.haya_line_slices.specs.EntryLines.{BeginNone, IsEntryOf}
use Rattle.haya_line_slices.proofs.Entries.{none-listed}
use Rattle.haya_line_slices.proofs.Starts.{is_feed}
use Rattle.haya_line_stream.specs.Turns.{HasNoFeed}
use Rattle.haya_parts.proofs.LineEnds.{held_line}

abbrev Plain : List ℕ → Type 0
Plain bytes = AllByRecursion (λ b. is_feed b ≡ false) bytes

no-feed : (bytes : List ℕ) → Plain bytes → HasNoFeed bytes
no-feed [] h = λ k d within. absurd (omega arith)
no-feed (b ∷ bytes) h = by (no-feed bytes h.1)
  where
    by : HasNoFeed bytes → (k d : ℕ) → k < length (b ∷ bytes) → is_feed (get_or (b ∷ bytes) k d) ≡ false
    by rest zero d within = h.0
    by rest (suc k) d within = rest k d (omega arith)

plain-take : (n : ℕ) (bytes : List ℕ) → Plain bytes → Plain (take n bytes)
plain-take zero [] h = tt
plain-take zero (b ∷ bytes) h = tt
plain-take (suc n) [] h = tt
plain-take (suc n) (b ∷ bytes) h = (h.0, plain-take n bytes h.1)

plain-strip : (bytes : List ℕ) → Plain bytes → Plain (strip_carriage_return bytes)
plain-strip bytes h = by (get_or bytes (length bytes - 1) 0 == 13)
  where
    by : (b : Bool) → Plain (cond b (take (length bytes - 1) bytes) bytes)
    by true = plain-take (length bytes - 1) bytes h
    by false = h

split-plain : (xs : List ℕ) → AllByRecursion Plain (slice_split is_feed xs)
split-plain [] = (tt, tt)
split-plain (x ∷ xs) = by (is_feed x) refl (slice_split is_feed xs) (split-plain xs)
  where
    by : (b : Bool) → is_feed x ≡ b → (ps : List (List ℕ)) → AllByRecursion Plain ps
        → AllByRecursion Plain (cond b ([] ∷ ps) (onto_first x ps))
    by true e ps h = (tt, h)
    by false e [] h = ((e, tt), tt)
    by false e (p ∷ ps) h = ((e, h.0), h.1)

parts-plain : (ps : List (List ℕ)) → AllByRecursion Plain ps → AllByRecursion Plain (lines_of_parts ps)
parts-plain [] h = tt
parts-plain (p ∷ []) h = by (length p == 0)
  where
    by : (b : Bool) → AllByRecursion Plain (cond b [] (p ∷ []))
    by true = tt
    by false = (h.0, tt)
parts-plain (p ∷ q ∷ ps) h = (plain-strip p h.0, parts-plain (q ∷ ps) h.1)

lines-plain : (text : List ℕ) → AllByRecursion Plain (lines text)
lines-plain text = parts-plain (slice_split is_feed text) (split-plain text)

abbrev filled : List (List ℕ) → List (List ℕ)
filled ls = filter (λ line. not (length line == 0)) ls

-- where such lines that aren't empty said entries, they would begin one
none-said : (ls : List (List ℕ)) → AllByRecursion Plain ls → BeginNone ls
    → (es : List (List ℕ × Tree)) (rest : List (List ℕ)) → map (λ e. e.0) es ≡ filled ls ++ rest
    → AllByRecursion (λ e. IsEntryOf e.0 e.1) es → filled ls ≡ []
none-said [] plain none es rest is each = refl
none-said ([] ∷ ls) plain none es rest is each = none-said ls plain.1 none.1 es rest is each
none-said ((x ∷ l) ∷ ls) plain none [] rest is each =
    absurd (let some : (length (x ∷ l) == 0) ≡ false = grind (arith, nat_tests) in
    let there : [] ≡ ((x ∷ l) ∷ filled ls) ++ rest = is ∙ ap (λ c. cond (not c) ((x ∷ l) ∷ filled ls) (filled ls) ++ rest) some in
    cc (there))
none-said ((x ∷ l) ∷ ls) plain none (e ∷ es) rest is each =
    let some : (length (x ∷ l) == 0) ≡ false = grind (arith, nat_tests) in
    let there : e.0 ∷ map (λ d. d.0) es ≡ (x ∷ l) ∷ (filled ls ++ rest) =
    is ∙ ap (λ c. cond (not c) ((x ∷ l) ∷ filled ls) (filled ls) ++ rest) some in
    let same : e.0 ≡ x ∷ l = cc (there) in
    absurd
    (none-listed (x ∷ l) e.1 (held_line (x ∷ l) (no-feed (x ∷ l) plain.0) (omega arith)) none.0
    (subst (λ p. IsEntryOf p e.1) same each.0))

pub none-in-front : (front : List ℕ) → BeginNone (lines front) → (es : List (List ℕ × Tree))
    (rest : List (List ℕ)) → map (λ e. e.0) es ≡ filled (lines front) ++ rest
    → AllByRecursion (λ e. IsEntryOf e.0 e.1) es → filled (lines front) ≡ []
none-in-front front none es rest is each = none-said (lines front) (lines-plain front) none es rest is each
