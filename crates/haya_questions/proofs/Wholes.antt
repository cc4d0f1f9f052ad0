-- Whole numbers that `parse` reads.
use Rattle.std.proofs.Common.{◌≡◌, ℕ, ◌&&◌, Bool, true, false, List, None, Some, Result, Ok, Err, refl, sym, ap, ◌∙◌, ℤ, pos, negsuc, length, rules, arith}
use Rattle.std.specs.Prelude.{FitsSigned, nat_lt, if◌then◌else◌}
use Rattle.std.specs.Int.{w64}
use Rattle.std.specs.Result.{result_ok}
use Rattle.std.specs.Str.{all_ascii_digits}
use Rattle.std.specs.Str.Parse.{IsNumeral, ParsesSigned, digits_value, signed_digits_value, without_leading_sign}
use Rattle.std.proofs.lemmas.Str.Parse.{tells_all_ascii_digits, numerals_by_value, IsNumeralModel}
use Rattle.haya_questions.specs.Whole.{is_i64, is_numeral, whole_read}

digits : IsNumeralModel (λ ds. all_ascii_digits ds ≡ true) (digits_value 10)
digits = numerals_by_value _ tells_all_ascii_digits

-- 64 bits hold the same numbers by either word
pub is_i64-fits : (z : ℤ) → FitsSigned w64 z → is_i64 z ≡ true
is_i64-fits (pos n) h = search (rules, arith)
is_i64-fits (negsuc n) h = search (rules, arith)

fits-is_i64 : (z : ℤ) → is_i64 z ≡ true → FitsSigned w64 z
fits-is_i64 (pos n) h = search (rules, arith)
fits-is_i64 (negsuc n) h = search (rules, arith)

if_true : {V : Type 0} (b : Bool) (x y : V) → b ≡ true → (if b then x else y) ≡ x
if_true b x y h = rw h refl

if_not : {V : Type 0} (b : Bool) (x y : V) → (b ≡ true → ⊥) → (if b then x else y) ≡ y
if_not true x y h = absurd (h refl)
if_not false x y h = refl

both : (a b : Bool) → a ≡ true → b ≡ true → (a && b) ≡ true
both a b p q = rw (p, q) refl

first_of : (a b : Bool) → (a && b) ≡ true → a ≡ true
first_of true b h = refl
first_of false b h = h

second_of : (a b : Bool) → (a && b) ≡ true → b ≡ true
second_of true b h = h
second_of false b h = cc

numeral : (ds : List ℕ) → IsNumeral 10 ds → is_numeral ds ≡ true
numeral ds h = both _ _ (search (h, rules, arith)) (digits.from ds h.1)

is-numeral : (ds : List ℕ) → is_numeral ds ≡ true → IsNumeral 10 ds
is-numeral ds h = let some : nat_lt 0 (length ds) ≡ true = first_of _ (all_ascii_digits ds) h in (search (some, rules, arith), digits.to ds (second_of (nat_lt 0 (length ds)) _ h))

-- what `parse` reads is the whole number of the text, if it writes one
pub parsed_whole : {E : Type 0} (text : List ℕ) (read : Result ℤ E) → ParsesSigned w64 10 text read → result_ok read ≡ whole_read text
unfolding whole_read
parsed_whole text (Ok n) h =
    ap Some h.1
    ∙ sym (if_true _ (Some (signed_digits_value 10 text)) None (both _ _ (numeral _ h.0.0) (is_i64-fits _ h.0.1)))
parsed_whole text (Err e) h =
    sym (if_not (is_numeral (without_leading_sign text) && is_i64 (signed_digits_value 10 text)) (Some (signed_digits_value 10 text)) None (λ t. h (is-numeral _ (first_of _ (is_i64 (signed_digits_value 10 text)) t), fits-is_i64 _ (second_of (is_numeral (without_leading_sign text)) _ t))))
