-- What the halves of a part read as, and their faults.
use Rattle.std.proofs.Common.{◌≡◌, ◌≢◌, ◌++◌, ℕ, ◌<◌, Bool, true, false, cond, ◌&&◌, eqb, nat_lt, List, [], ◌∷◌, length, refl, ap, sym, ◌∙◌, Result, Err, arith}
use Rattle.std.proofs.lemmas.Bool.Decides.{nat_tests}
use Rattle.std.proofs.lemmas.Str.{chars_from_encodes, chars-encodes, encode_ascii, encodes-chars, scalars-chars}
use Rattle.std.proofs.Math.Utf8.{scalars}
use Rattle.std.specs.Char.{is_whitespace}
use Rattle.std.specs.List.{onto_first}
use Rattle.std.specs.Result.{result_and, result_map_both}
use Rattle.std.specs.Str.{IsUtf8, chars, encode_utf8_all, skip_leading_whitespace, drop_trailing_whitespace, trim, trim_start, trim_end}
use Rattle.haya_text.proofs.Tells.{and-both}
use Rattle.haya_numbers.specs.Cuts.{dash_split, escaped_split, is_dash}
use Rattle.haya_numbers.specs.Numeric.{NumericView, is_memory}
use Rattle.haya_numbers.specs.Pages.{PartView, EscapedRange, fault_of}
use Rattle.haya_numbers.specs.PagesReading.{IsFaultIn, both_read, cut_read, halves_read, inner_read, trim_chars}
use Rattle.haya_numbers.specs.declared.numeric.NumericError.{NumericError}
use Rattle.haya_numbers.specs.declared.numeric.NumericError.TheVariants as number
use Rattle.haya_numbers.specs.declared.page.PageRangesPartErr.{PageRangesPartErr}
use Rattle.haya_numbers.specs.declared.page.PageRangesPartErr.TheVariants.{Empty, Malformed, NumericErr, OutOfMemory}
use lib.Utf8.{scalar}

scalars-skip : (cs : List ℕ) → scalars cs ≡ true → scalars (skip_leading_whitespace cs) ≡ true
scalars-skip [] h = h
scalars-skip (c ∷ cs) h = go (is_whitespace c) (scalars-skip cs (and-both (scalar c) (scalars cs) h).1)
  where
    go : (b : Bool) → scalars (skip_leading_whitespace cs) ≡ true → scalars (cond b (skip_leading_whitespace cs) (c ∷ cs)) ≡ true
    go true rest = rest
    go false rest = h

-- the characters of a text without the white space at its ends
pub chars-trim : (text inner : List ℕ) → IsUtf8 text → IsUtf8 inner → inner ≡ trim text → chars inner ≡ trim_chars (chars text)
unfolding trim_start trim_end
chars-trim text inner u v e =
    sym (chars_from_encodes (drop_trailing_whitespace (chars (trim_start text))) inner v (sym e))
    ∙ ap drop_trailing_whitespace (chars-encodes (skip_leading_whitespace (chars text)) (scalars-skip (chars text) (scalars-chars text u)))

-- the fault of a part, from that of its number
pub fault-in_number : (read : Result NumericView NumericError) (e : NumericError) → (is_memory e ≡ false → read ≡ Err e) → IsFaultIn (result_map_both (λ n. n) fault_of read) (fault_of e)
fault-in_number read number.OutOfMemory h = tt
fault-in_number read number.NoNumber h = (refl, rw (h refl) refl)
fault-in_number read number.UnexpectedCharactersAfterPostfix h = (refl, rw (h refl) refl)
fault-in_number read number.NotADelimiter h = (refl, rw (h refl) refl)
fault-in_number read number.MissingDelimiter h = (refl, rw (h refl) refl)

-- a fault stays one where it is handed on
pub fault-along : {V W : Type 0} (f : Result V PageRangesPartErr → Result W PageRangesPartErr) (read : Result V PageRangesPartErr) (e : PageRangesPartErr) → ((d : PageRangesPartErr) → f (Err d) ≡ Err d) → IsFaultIn read e → IsFaultIn (f read) e
fault-along f read OutOfMemory on h = tt
fault-along f read (NumericErr e) on h = (h.0, ap f h.1 ∙ on (NumericErr e))
fault-along f read Malformed on h = ap f h ∙ on Malformed
fault-along f read Empty on h = ap f h ∙ on Empty

-- a cut text has a first part
escaped_split-cons : (cs : List ℕ) → (p : List ℕ) × (ps : List (List ℕ)) × (escaped_split cs ≡ p ∷ ps)
escaped_split-cons [] = ([], [], refl)
escaped_split-cons (c ∷ []) = (c ∷ [], [], refl)
escaped_split-cons (c ∷ d ∷ cs) = go (eqb c 92 && eqb d 45) (escaped_split-cons (d ∷ cs))
  where
    go : (b : Bool) → (p : List ℕ) × (ps : List (List ℕ)) × (escaped_split (d ∷ cs) ≡ p ∷ ps) → (p : List ℕ) × (ps : List (List ℕ)) × (cond b ([] ∷ escaped_split cs) (onto_first c (escaped_split (d ∷ cs))) ≡ p ∷ ps)
    go true r = ([], escaped_split cs, refl)
    go false r = (c ∷ r.0, r.1, rw r.2 refl)

dash_split-cons : (cs : List ℕ) → (p : List ℕ) × (ps : List (List ℕ)) × (dash_split cs ≡ p ∷ ps)
dash_split-cons [] = ([], [], refl)
dash_split-cons (c ∷ cs) = go (is_dash c) (dash_split-cons cs)
  where
    go : (b : Bool) → (p : List ℕ) × (ps : List (List ℕ)) × (dash_split cs ≡ p ∷ ps) → (p : List ℕ) × (ps : List (List ℕ)) × (cond b ([] ∷ dash_split cs) (onto_first c (dash_split cs)) ≡ p ∷ ps)
    go true r = ([], dash_split cs, refl)
    go false r = (c ∷ r.0, r.1, rw r.2 refl)

-- more than two halves
pub escaped-more : (range : NumericView → NumericView → PartView) (start behind end more : List ℕ) → escaped_split behind ≡ end ∷ escaped_split more → halves_read range (start ∷ escaped_split behind) ≡ result_and (both_read start end) (Err Malformed)
escaped-more range start behind end more e = let r = escaped_split-cons more in rw (e, r.2) refl

pub dashed-more : (range : NumericView → NumericView → PartView) (start behind end more : List ℕ) → dash_split behind ≡ end ∷ dash_split more → halves_read range (start ∷ dash_split behind) ≡ result_and (both_read start end) (Err Malformed)
dashed-more range start behind end more e = let r = dash_split-cons more in rw (e, r.2) refl

-- a text that is separated by an escaped hyphen
two : (a b : List ℕ) (rest : List (List ℕ)) → nat_lt 1 (length (a ∷ b ∷ rest)) ≡ true
two a b rest = grind (arith, nat_tests)

pub cut-escaped : (text start behind : List ℕ) → escaped_split text ≡ start ∷ escaped_split behind → cut_read text ≡ halves_read EscapedRange (start ∷ escaped_split behind)
cut-escaped text start behind e = let r = escaped_split-cons behind in rw (e, r.2, two start r.0 r.1) refl

-- a part that is no separator and not empty
pub inner-cut : (cs : List ℕ) → cs ≢ [] → cs ≢ 38 ∷ [] → cs ≢ 44 ∷ [] → inner_read cs ≡ cut_read cs
inner-cut [] h i j = absurd (h refl)
inner-cut (c ∷ []) h i j =
    let a : eqb c 38 ≡ false = grind (arith, nat_tests, λ (e : c ≡ 38). i (ap (λ d. d ∷ []) e)) in
    let b : eqb c 44 ≡ false = grind (arith, nat_tests, λ (e : c ≡ 44). j (ap (λ d. d ∷ []) e)) in
    rw (a, b) refl
inner-cut (c ∷ d ∷ cs) h i j = refl

-- texts of no character and of one
pub chars-empty : chars [] ≡ []
unfolding chars
chars-empty = refl

pub chars-ampersand : chars (38 ∷ []) ≡ 38 ∷ []
unfolding chars
chars-ampersand = refl

pub chars-comma : chars (44 ∷ []) ≡ 44 ∷ []
unfolding chars
chars-comma = refl

pub chars-not_empty : (text : List ℕ) → IsUtf8 text → text ≢ [] → chars text ≢ []
chars-not_empty text u h = λ e. h (sym (encodes-chars text u) ∙ ap encode_utf8_all e)

pub chars-not_one : (text : List ℕ) (c : ℕ) → IsUtf8 text → c < 128 → text ≢ c ∷ [] → chars text ≢ c ∷ []
chars-not_one text c u small h = λ e. h (sym (encodes-chars text u) ∙ ap encode_utf8_all e ∙ rw (encode_ascii c small) refl)

-- what is read behind values that are read already
abbrev pub after_these : {V E : Type 0} → List V → Result (List V) E → Result (List V) E
after_these vs rest = result_map_both (λ ws. vs ++ ws) (λ e. e) rest
