-- Whole numbers that `parse` reads.
use Rattle.std.proofs.Common.{◌≡◌, ℕ, ◌^◌, ◌<◌, true≢false, ◌&&◌, Bool, true, false, List, None, Some, Result, Ok, Err, refl, sym, ap, ◌∙◌, ℤ, pos, negsuc, length, rules, arith}
use Rattle.std.specs.Prelude.{FitsSigned, nat_lt, if◌then◌else◌}
use Rattle.std.specs.Int.{w32}
use Rattle.std.specs.Fmt.{signed_decimal}
use lib.Signed.{mag}
use Rattle.std.proofs.lemmas.Bool.{ltb-true, lt-ltb}
use Rattle.std.proofs.lemmas.Fmt.{parse-signed_decimal}
use Rattle.std.specs.Result.{result_ok}
use Rattle.std.specs.Str.{all_ascii_digits}
use Rattle.std.specs.Str.Parse.{IsNumeral, ParsesSigned, digits_value, signed_digits_value, without_leading_sign}
use Rattle.std.proofs.lemmas.Str.Parse.{tells_all_ascii_digits, numerals_by_value, IsNumeralModel}
use Rattle.haya_json.specs.Whole.{is_i32, is_numeral, whole_read}

digits : IsNumeralModel (λ ds. all_ascii_digits ds ≡ true) (digits_value 10)
digits = numerals_by_value _ tells_all_ascii_digits

-- 32 bits hold the same numbers by either word
pub is_i32-fits : (z : ℤ) → FitsSigned w32 z → is_i32 z ≡ true
is_i32-fits (pos n) h = search (rules, arith)
is_i32-fits (negsuc n) h = search (rules, arith)

fits-is_i32 : (z : ℤ) → is_i32 z ≡ true → FitsSigned w32 z
fits-is_i32 (pos n) h = search (rules, arith)
fits-is_i32 (negsuc n) h = search (rules, arith)

if_true : {V : Type 0} (b : Bool) (x y : V) → b ≡ true → (if b then x else y) ≡ x
if_true b x y h = rw h refl

if_not : {V : Type 0} (b : Bool) (x y : V) → (b ≡ true → ⊥) → (if b then x else y) ≡ y
if_not true x y h = absurd (h refl)
if_not false x y h = refl

both : (a b : Bool) → a ≡ true → b ≡ true → (a && b) ≡ true
both a b p q = rw (p, q) refl

first_of : (a b : Bool) → (a && b) ≡ true → a ≡ true
first_of true b h = refl
first_of false b h = h

second_of : (a b : Bool) → (a && b) ≡ true → b ≡ true
second_of true b h = h
second_of false b h = cc

numeral : (ds : List ℕ) → IsNumeral 10 ds → is_numeral ds ≡ true
numeral ds h = both _ _ (search (h, rules, arith)) (digits.from ds h.1)

is-numeral : (ds : List ℕ) → is_numeral ds ≡ true → IsNumeral 10 ds
is-numeral ds h = let some : nat_lt 0 (length ds) ≡ true = first_of _ (all_ascii_digits ds) h in (search (some, rules, arith), digits.to ds (second_of (nat_lt 0 (length ds)) _ h))

-- what `parse` reads is the whole number of the text, if it writes one
pub parsed_whole : {E : Type 0} (text : List ℕ) (read : Result ℤ E) → ParsesSigned w32 10 text read → result_ok read ≡ whole_read text
parsed_whole text (Ok n) h =
    ap Some h.1
    ∙ sym (if_true _ (Some (signed_digits_value 10 text)) None (both _ _ (numeral _ h.0.0) (is_i32-fits _ h.0.1)))
parsed_whole text (Err e) h =
    sym (if_not (is_numeral (without_leading_sign text) && is_i32 (signed_digits_value 10 text)) (Some (signed_digits_value 10 text)) None (λ t. h (is-numeral _ (first_of _ (is_i32 (signed_digits_value 10 text)) t), fits-is_i32 _ (second_of (is_numeral (without_leading_sign text)) _ t))))

-- ---- whole numbers that are printed

pub small : (z : ℤ) → is_i32 z ≡ true → mag z < 2 ^ 63
small (pos n) h = omega (arith, ltb-true n (2 ^ 31) h)
small (negsuc n) h = omega (arith, ltb-true n (2 ^ 31) h)

equal_values : {V E : Type 0} (v w : V) → (let r : Result V E = Ok v in r ≡ Ok w) → v ≡ w
equal_values v w h = cc

no_error : {V E : Type 0} (e : E) (v : V) → Err e ≡ Ok v → ⊥
no_error e v h = cc

-- a whole number is read from what is printed of it
pub whole_back : (z : ℤ) → is_i32 z ≡ true → whole_read (signed_decimal z) ≡ Some z
whole_back z fits = by (is_numeral (without_leading_sign text) && is_i32 (signed_digits_value 10 text)) refl
  where
    text : List ℕ
    text = signed_decimal z

    parsed : (r : Result ℤ ℕ) → ParsesSigned w32 10 (signed_decimal z) r → r ≡ Ok z
    parsed r parses = parse-signed_decimal w32 z (signed_decimal z) r (fits-is_i32 z fits) (small z fits) refl parses

    by : (b : Bool) → (is_numeral (without_leading_sign text) && is_i32 (signed_digits_value 10 text)) ≡ b → whole_read (signed_decimal z) ≡ Some z
    by true is =
        let read : Ok (signed_digits_value 10 text) ≡ Ok z =
        parsed (Ok (signed_digits_value 10 text))
        ((is-numeral _ (first_of _ (is_i32 (signed_digits_value 10 text)) is), fits-is_i32 _ (second_of (is_numeral (without_leading_sign text)) _ is)), refl) in
        let same = equal_values (signed_digits_value 10 text) z read in
        if_true _ (Some (signed_digits_value 10 text)) None is ∙ ap Some same
    by false is =
        let read : Err 0 ≡ Ok z =
        parsed (Err 0) (λ p. true≢false (sym (both _ _ (numeral _ p.0) (is_i32-fits _ p.1)) ∙ is)) in
        absurd (no_error 0 z read)

pub byte_fits : (n : ℕ) → nat_lt n 256 ≡ true → is_i32 (pos n) ≡ true
byte_fits n h = lt-ltb n (2 ^ 31) (omega (arith, ltb-true n 256 h))
