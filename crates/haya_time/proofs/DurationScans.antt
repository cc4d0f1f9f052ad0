-- Runs at the front of a text, by its characters and by its bytes.
use Rattle.std.proofs.Common.{◌≡◌, ℕ, ◌-◌, ◌<◌, Bool, true, false, List, [], ◌∷◌, ◌++◌, Some, None, length, get_or, zero, suc, refl, ap, sym, ◌∙◌, arith, take, drop, length-append}
use Rattle.std.proofs.lemmas.Bool.Decides.{nat_tests}
use Rattle.std.proofs.lemmas.Str.{encodes-chars, encodes-append, encodes-IsAscii, IsCharBoundary-at_seam}
use Rattle.std.proofs.Math.Seq.{take-append_seam, drop-append_seam}
use Rattle.std.specs.Char.{is_ascii_digit}
use Rattle.std.specs.Str.{IsUtf8, IsAscii, IsCharBoundary, chars, encode_utf8_all, skip_leading_whitespace}
use Rattle.haya_text.specs.Characters.{is_numeric, begins_with, run, behind_run}
use Rattle.haya_text.proofs.Numerics.{run-behind_run}
use Rattle.haya_time.specs.DurationReading.{digits_at}

pub IsAscii-run : (cs : List ℕ) → IsAscii (run is_ascii_digit cs)
IsAscii-run [] i = omega arith
IsAscii-run (c ∷ cs) i = go (is_ascii_digit c) refl (IsAscii-run cs) i
  where
    go : (b : Bool) → is_ascii_digit c ≡ b → IsAscii (run is_ascii_digit cs) → (i : ℕ) → get_or (run is_ascii_digit (c ∷ cs)) i 0 < 128
    go true h rest zero = rw h (grind (arith, nat_tests))
    go true h rest (suc i) = rw h (rest i)
    go false h rest i = rw h (omega arith)

-- the bytes of the digits at the front of a text are their characters
pub digits-cut : (text rest : List ℕ) → IsUtf8 text → IsUtf8 rest → chars rest ≡ behind_run is_ascii_digit (chars text) → text ≡ run is_ascii_digit (chars text) ++ rest
digits-cut text rest u v e =
    sym (encodes-chars text u) ∙ ap encode_utf8_all (run-behind_run is_ascii_digit (chars text))
    ∙ encodes-append (run is_ascii_digit (chars text)) (behind_run is_ascii_digit (chars text))
    ∙ ap (λ xs. xs ++ encode_utf8_all (behind_run is_ascii_digit (chars text))) (encodes-IsAscii (run is_ascii_digit (chars text)) (IsAscii-run (chars text)))
    ∙ ap (λ xs. run is_ascii_digit (chars text) ++ xs) (ap encode_utf8_all (sym e) ∙ encodes-chars rest v)

-- a text may be cut behind its front
pub cut_boundary : (text front rest : List ℕ) → IsUtf8 rest → text ≡ front ++ rest → IsCharBoundary text (length text - length rest)
cut_boundary text front rest u e =
    let place : length text - length rest ≡ length front = omega (arith, ap length e, length-append front rest) in
    rw place (IsCharBoundary-at_seam text front rest e u)

-- the parts of a text that is cut there
pub take-cut : (text front rest : List ℕ) → text ≡ front ++ rest → take (length text - length rest) text ≡ front
take-cut text front rest e =
    let place : length text - length rest ≡ length front = omega (arith, ap length e, length-append front rest) in
    rw place (ap (take (length front)) e ∙ take-append_seam front rest)

pub drop-cut : (text front rest : List ℕ) → text ≡ front ++ rest → drop (length text - length rest) text ≡ rest
drop-cut text front rest e =
    let place : length text - length rest ≡ length front = omega (arith, ap length e, length-append front rest) in
    rw place (ap (drop (length front)) e ∙ drop-append_seam front rest)

-- the digits at the front of a text whose white space is skipped
pub digits-none : (text front rest : List ℕ) → front ≡ skip_leading_whitespace text → rest ≡ behind_run is_ascii_digit front → begins_with is_numeric rest ≡ true → digits_at text ≡ None
digits-none text front rest e f h = rw (← e, ← f, h) refl

pub digits-some : (text front rest digits tail : List ℕ) → front ≡ skip_leading_whitespace text → rest ≡ behind_run is_ascii_digit front → begins_with is_numeric rest ≡ false → digits ≡ run is_ascii_digit front → tail ≡ rest → digits_at text ≡ Some (digits, tail)
digits-some text front rest digits tail e f h d t = rw (← e, ← f, h, d, t) refl
