-- The lines of a text are texts.
use Rattle.std.proofs.Common.{◌≡◌, ℕ, ◌-◌, ◌<◌, Bool, true, false, cond, ◌==◌, List, [], ◌∷◌, ◌++◌, length, take, refl, sym, subst, arith, IsUtf8, append_assoc, append-nil}
use Rattle.std.specs.Prelude.{All, if◌then◌else◌, slice_index}
use Rattle.std.specs.List.{AllByRecursion, onto_first, slice_split}
use Rattle.std.specs.Str.Lines.{lines, lines_of_parts, strip_carriage_return}
use Rattle.std.proofs.lemmas.Bool.Decides.{nat_tests}
use Rattle.std.proofs.lemmas.List.Elements.{All-from_recursion}
use Rattle.std.proofs.lemmas.Str.{IsCharBoundary-before_ascii, IsUtf8-take}
use Rattle.haya_json.proofs.Utf8Parts.{before_utf8, behind_utf8}

-- ---- the parts between line feeds

-- the byte is a line feed
abbrev is_feed : ℕ → Bool
is_feed b = b == 10

-- these bytes with the first part behind them are a text, and so is each other part
abbrev AreTextsBehind : List ℕ → List (List ℕ) → Type 0
AreTextsBehind front [] = IsUtf8 front
AreTextsBehind front (p ∷ ps) = IsUtf8 (front ++ p) × AllByRecursion IsUtf8 ps

-- a byte more in front of the first part
with_byte : (front : List ℕ) (x : ℕ) (ps : List (List ℕ)) → AreTextsBehind (front ++ x ∷ []) ps → AreTextsBehind front (onto_first x ps)
with_byte front x [] h = (h, tt)
with_byte front x (p ∷ ps) h = (subst IsUtf8 (append_assoc front (x ∷ []) p) h.0, h.1)

-- with nothing in front each part is a text
behind_none : (ps : List (List ℕ)) → AreTextsBehind [] ps → AllByRecursion IsUtf8 ps
behind_none [] h = tt
behind_none (p ∷ ps) h = h

-- the parts of a text between its line feeds
parts_utf8 : (front xs : List ℕ) → IsUtf8 (front ++ xs) → AreTextsBehind front (slice_split is_feed xs)
parts_utf8 front [] u = (u, tt)
parts_utf8 front (x ∷ xs) u = by (λ w. parts_utf8 [] xs w) (λ w. parts_utf8 (front ++ x ∷ []) xs w) (is_feed x) refl
  where
    by : (IsUtf8 xs → AreTextsBehind [] (slice_split is_feed xs)) → (IsUtf8 ((front ++ x ∷ []) ++ xs) → AreTextsBehind (front ++ x ∷ []) (slice_split is_feed xs))
        → (b : Bool) → is_feed x ≡ b → AreTextsBehind front (cond b ([] ∷ slice_split is_feed xs) (onto_first x (slice_split is_feed xs)))
    by after within true e =
        let small : x < 128 = grind (arith, nat_tests) in
        (subst IsUtf8 (sym (append-nil front)) (before_utf8 front xs x small u), behind_none (slice_split is_feed xs) (after (behind_utf8 front xs x small u)))
    by after within false e = with_byte front x (slice_split is_feed xs) (within (subst IsUtf8 (sym (append_assoc front (x ∷ []) xs)) u))

-- ---- lines

-- a text without a carriage return at its end
strip_utf8 : (p : List ℕ) → IsUtf8 p → IsUtf8 (strip_carriage_return p)
strip_utf8 [] u = u
strip_utf8 (x ∷ xs) u = by (slice_index (x ∷ xs) last == 13) refl
  where
    last : ℕ
    last = length (x ∷ xs) - 1

    by : (b : Bool) → (slice_index (x ∷ xs) last == 13) ≡ b → IsUtf8 (if b then take last (x ∷ xs) else x ∷ xs)
    by true e =
        let small : slice_index (x ∷ xs) last < 128 = grind (arith, nat_tests) in
        IsUtf8-take (x ∷ xs) last u (IsCharBoundary-before_ascii (x ∷ xs) last (omega arith) small)
    by false e = u

-- the lines in such parts
of_parts_utf8 : (ps : List (List ℕ)) → AllByRecursion IsUtf8 ps → AllByRecursion IsUtf8 (lines_of_parts ps)
of_parts_utf8 [] h = tt
of_parts_utf8 (p ∷ []) h = by (length p == 0)
  where
    by : (b : Bool) → AllByRecursion IsUtf8 (if b then [] else p ∷ [])
    by true = tt
    by false = (h.0, tt)
of_parts_utf8 (p ∷ q ∷ ps) h = (strip_utf8 p h.0, of_parts_utf8 (q ∷ ps) h.1)

-- the lines of a text
pub lines_utf8 : (text : List ℕ) → IsUtf8 text → All IsUtf8 (lines text)
lines_utf8 text u =
    let parts = behind_none (slice_split is_feed text) (parts_utf8 [] text u) in
    All-from_recursion IsUtf8 (lines text) (of_parts_utf8 (slice_split is_feed text) parts)
