-- What `parse` gives of a run of numeric characters.
use Rattle.std.proofs.Common.{◌≡◌, ◌≢◌, ℕ, ◌<◌, ◌^◌, Bool, true, false, ◌&&◌, nat_lt, List, [], ◌∷◌, ◌++◌, length, get_or, refl, sym, ◌∙◌, ℤ, pos, Result, Ok, Err, Some, None, arith, cond}
use Rattle.std.specs.Prelude.{MatchResult}
use Rattle.std.specs.Int.{w32}
use mir.Val.{to_z, of_z}
use Rattle.std.proofs.lemmas.Int.{ints}
use Rattle.std.specs.Result.{OkIff}
use Rattle.std.specs.Str.{IsUtf8, chars, all_ascii_digits}
use Rattle.std.specs.Char.{encode_utf8}
use Rattle.std.specs.Str.Parse.{digits_value, ParsesSigned}
use Rattle.std.proofs.lemmas.Bool.Decides.{nat_tests}
use Rattle.std.proofs.lemmas.Fmt.{IsAscii-from_digits}
use Rattle.std.proofs.lemmas.Str.{chars-IsAscii, chars_past_char, encode_ascii, encodes-chars, encodes-IsAscii}
use Rattle.std.proofs.lemmas.Str.Parse.{IsNumeralModel, numerals_by_value, tells_all_ascii_digits, parse_signed_plain}
use Rattle.ucd_category.proofs.Computing.{ucd_category}
use Rattle.haya_text.specs.Characters.{is_numeric, run}
use Rattle.haya_numbers.specs.NumericReading.{magnitude}
use Rattle.haya_numbers.proofs.Runs.{run-first}

pub own : IsNumeralModel (λ ds. all_ascii_digits ds ≡ true) (digits_value 10)
own = numerals_by_value _ tells_all_ascii_digits

plus_is_not : is_numeric 43 ≡ false
unfolding ucd_category
plus_is_not = refl

pub hyphen_is_not : is_numeric 45 ≡ false
unfolding ucd_category
hyphen_is_not = refl

-- a run of numeric characters doesn't begin with another character
first_apart : (bs cs : List ℕ) (c : ℕ) → IsUtf8 bs → chars bs ≡ run is_numeric cs → c < 128 → 0 < c → is_numeric c ≡ false → get_or bs 0 0 ≢ c
first_apart [] cs c u e low high n h = absurd (omega arith)
first_apart (b ∷ bs) cs c u e low high n h =
    let first : b ∷ bs ≡ encode_utf8 c ++ bs = rw (encode_ascii c low, h) refl in
    let here = chars_past_char (b ∷ bs) bs c u first in
    let yes = run-first is_numeric cs (chars bs) c (sym e ∙ here) in
    cc

-- where the value of the characters is read, and where it isn't
digits_are : (bs : List ℕ) → all_ascii_digits bs ≡ true → chars bs ≡ bs
digits_are bs h = chars-IsAscii bs (IsAscii-from_digits bs (own.to bs h))

pub magnitude_some : (ds : List ℕ) → all_ascii_digits ds ≡ true → 0 < length ds → digits_value 10 ds < 2 ^ 31 → magnitude ds ≡ Some (digits_value 10 ds)
magnitude_some [] p l s = absurd (omega arith)
magnitude_some (c ∷ cs) p l s =
    let small : nat_lt (digits_value 10 (c ∷ cs)) (2 ^ 31) ≡ true = grind (arith, nat_tests) in
    rw (p, small) refl

magnitude_none : (ds : List ℕ) → ¬ ((all_ascii_digits ds ≡ true) × (0 < length ds) × (digits_value 10 ds < 2 ^ 31)) → magnitude ds ≡ None
magnitude_none [] none = refl
magnitude_none (c ∷ cs) none = go (all_ascii_digits (c ∷ cs)) refl (nat_lt (digits_value 10 (c ∷ cs)) (2 ^ 31)) refl
  where
    go : (a : Bool) → all_ascii_digits (c ∷ cs) ≡ a → (b : Bool) → nat_lt (digits_value 10 (c ∷ cs)) (2 ^ 31) ≡ b → cond (a && b) (Some (digits_value 10 (c ∷ cs))) None ≡ None
    go true h true k = absurd (none (h, omega arith, grind (arith, nat_tests)))
    go true h false k = refl
    go false h b k = refl

-- what `parse` gives is the magnitude, or there is none
pub parse-magnitude : {E : Type 0} (bs cs : List ℕ) → IsUtf8 bs → chars bs ≡ run is_numeric cs → (r : Result ℤ E) → ParsesSigned w32 10 bs r
    → MatchResult r (λ z. (m : ℕ) × (z ≡ pos m) × (m < 2 ^ 31) × (magnitude (run is_numeric cs) ≡ Some m)) (λ _. magnitude (run is_numeric cs) ≡ None)
parse-magnitude {E} bs cs u e r h =
    let plus = first_apart bs cs 43 u e (omega arith) (omega arith) plus_is_not in
    let minus = first_apart bs cs 45 u e (omega arith) (omega arith) hyphen_is_not in
    go r (parse_signed_plain own w32 bs r h plus minus)
  where
    go : (r : Result ℤ E) → OkIff r ((all_ascii_digits bs ≡ true) × (0 < length bs) × (digits_value 10 bs < 2 ^ 31)) (pos (digits_value 10 bs))
        → MatchResult r (λ z. (m : ℕ) × (z ≡ pos m) × (m < 2 ^ 31) × (magnitude (run is_numeric cs) ≡ Some m)) (λ _. magnitude (run is_numeric cs) ≡ None)
    go (Ok z) ((p, l, s), k) =
        let same : run is_numeric cs ≡ bs = sym e ∙ digits_are bs p in
        (digits_value 10 bs, k, s, rw same (magnitude_some bs p l s))
    go (Err d) none = rw (← e) (magnitude_none (chars bs) (λ (p, l, s).
        let same : chars bs ≡ bs = sym (encodes-IsAscii (chars bs) (IsAscii-from_digits (chars bs) (own.to (chars bs) p))) ∙ encodes-chars bs u in
        none (rw same at p, rw same at l, rw same at s)))

-- a magnitude is kept by the casts
pub kept_magnitude : (m : ℕ) (z : ℤ) → m < 2 ^ 31 → z ≡ pos m → to_z w32 (of_z w32 z) ≡ pos m
kept_magnitude m z s e = rw e (omega (arith, ints))
