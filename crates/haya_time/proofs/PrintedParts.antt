-- Numbers in digits of a width, and marks, as they are printed.
use Rattle.std.proofs.Common.{◌≡◌, ℕ, zero, suc, ◌-◌, ◌^◌, ◌<◌, ◌≤◌, Bool, true, false, cond, List, [], ◌++◌, length, replicate, refl, ◌∙◌, arith, subst, length-append}
use Rattle.std.proofs.lemmas.Bool.Decides.{nat_tests}
use Rattle.std.proofs.lemmas.Fmt.{IsAscii-from_digits, decimal_is_IsNumeral, length-decimal-le}
use Rattle.std.proofs.lemmas.List.{append-nil, length-replicate}
use Rattle.std.proofs.lemmas.Str.Ascii.{IsAscii-nil}
use Rattle.std.proofs.lemmas.Str.Parse.{IsDigitsTest, IsNumeralModel, numerals_by_value, tells_all_ascii_digits}
use Rattle.std.specs.declared.fmt.Formatter.{Formatter}
use Rattle.std.specs.Char.{is_ascii_digit}
use Rattle.std.specs.Fmt.{HasWritten, char_count, decimal, format_spec, padded_integral, styled_decimal}
use Rattle.std.specs.List.{list_all}
use Rattle.std.specs.Str.{IsAscii, all_ascii_digits}
use Rattle.std.specs.Str.Parse.{digits_value}
use Rattle.haya_text.proofs.Numerics.{digit_high, digit_low}
use Rattle.haya_text.proofs.Tells.{and-both, both-and}
use Rattle.haya_time.specs.Padded.{digit_zero, padded_decimal}

-- ---- digits

-- the characters from 0 to 9 are digits
is_digit : (c : ℕ) → 48 ≤ c → c ≤ 57 → is_ascii_digit c ≡ true
is_digit c low high = grind (arith, nat_tests)

-- what std asks of a test of digits
tells : IsDigitsTest (λ ds. list_all is_ascii_digit ds ≡ true)
tells = record {
  empty = refl;
  parts = λ c cs h. let p = and-both (is_ascii_digit c) (list_all is_ascii_digit cs) h in ((digit_low c p.0, digit_high c p.0), p.1);
  more = λ c cs k h. both-and (is_ascii_digit c) (list_all is_ascii_digit cs) (is_digit c k.0 k.1) h;
}

-- lists of digits are std's numerals
pub digits_model : IsNumeralModel (λ ds. list_all is_ascii_digit ds ≡ true) (digits_value 10)
digits_model = numerals_by_value _ tells

-- both of std's tests of digits agree
pub all_ascii_digits-from : (ds : List ℕ) → list_all is_ascii_digit ds ≡ true → all_ascii_digits ds ≡ true
all_ascii_digits-from ds h = (numerals_by_value _ tells_all_ascii_digits).from ds (digits_model.to ds h)

-- ---- padded numbers

-- zeros in front keep a list of digits one, and its value
zeros-digits : (k : ℕ) (ds : List ℕ) → list_all is_ascii_digit ds ≡ true → list_all is_ascii_digit (replicate k digit_zero ++ ds) ≡ true
zeros-digits zero ds h = h
zeros-digits (suc k) ds h = zeros-digits k ds h

zeros-value : (k : ℕ) (ds : List ℕ) → digits_value 10 (replicate k digit_zero ++ ds) ≡ digits_value 10 ds
zeros-value zero ds = refl
zeros-value (suc k) ds = zeros-value k ds

-- a padded number has so many digits at least, and they tell it
pub record Printed (width n : ℕ) : Type 0 where
  pub digits : list_all is_ascii_digit (padded_decimal width n) ≡ true
  pub value : digits_value 10 (padded_decimal width n) ≡ n
  pub least : width ≤ length (padded_decimal width n)
  pub some : 0 < length (padded_decimal width n)

-- as many digits as it takes are there, with zeros in front
pub printed : (width n : ℕ) → n < 2 ^ 64 → Printed width n
printed width n small =
    let numeral = decimal_is_IsNumeral n small in
    let zeros_len = length-replicate {A = ℕ} (width - length (decimal n)) digit_zero in
    let all = length-append (replicate (width - length (decimal n)) digit_zero) (decimal n) in
    record {
      digits = zeros-digits (width - length (decimal n)) (decimal n) (digits_model.from (decimal n) numeral.0.1);
      value = zeros-value (width - length (decimal n)) (decimal n) ∙ numeral.1;
      least = omega (arith, zeros_len, all);
      some = omega (arith, all, numeral.0.0);
    }

-- a number that fits the width is printed in just so many digits
pub printed-exact : (width n : ℕ) → 0 < width → n < 10 ^ width → n < 2 ^ 64 → length (padded_decimal width n) ≡ width
printed-exact width n pos fits small =
    let zeros_len = length-replicate {A = ℕ} (width - length (decimal n)) digit_zero in
    let all = length-append (replicate (width - length (decimal n)) digit_zero) (decimal n) in
    omega (arith, zeros_len, all, length-decimal-le width n pos fits small)

-- ---- what a format writes

-- a format that asks for this width and zeros
pub padded : (w n : ℕ) → padded_integral (format_spec 32 0 4 w (2 ^ 64 - 1)) false [] (decimal n) ≡ padded_decimal w n
unfolding padded_integral char_count
padded w n =
    let e : w - length (decimal n) - 0 - 0 ≡ w - length (decimal n) = omega arith in
    rw (e, append-nil) refl

-- `{:02}` and `{:03}`
pub styled-two : (n : ℕ) → styled_decimal (format_spec 32 0 4 2 (2 ^ 64 - 1)) n ≡ padded_decimal 2 n
styled-two n = padded 2 n

pub styled-three : (n : ℕ) → styled_decimal (format_spec 32 0 4 3 (2 ^ 64 - 1)) n ≡ padded_decimal 3 n
styled-three n = padded 3 n

-- the same was written, in another form
pub written_as : {W : Type 0} {took : W → List ℕ → W → Type 0} {f g : Formatter W} (a b : List ℕ) → a ≡ b → HasWritten took f a g → HasWritten took f b g
written_as {W} {took} {f} {g} a b e h = subst (λ (bs : List ℕ). HasWritten took f bs g) e h

-- ---- bytes that are their characters

-- a padded number is ASCII
pub IsAscii-padded : (width n : ℕ) → n < 2 ^ 64 → IsAscii (padded_decimal width n)
IsAscii-padded width n small = IsAscii-from_digits _ (digits_model.to _ (printed width n small).digits)

-- a part that may be missing
pub IsAscii-if : (b : Bool) (text : List ℕ) → IsAscii text → IsAscii (cond b text [])
IsAscii-if true text h = h
IsAscii-if false text h = IsAscii-nil
