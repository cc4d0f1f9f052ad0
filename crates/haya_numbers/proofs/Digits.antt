-- The printed number, read again.
use Rattle.std.proofs.Common.{◌≡◌, ℕ, zero, suc, ◌+◌, ◌-◌, ◌<◌, ◌^◌, true, false, nat_eq, List, [], ◌∷◌, ◌++◌, get_or, refl, ap, ◌∙◌, ℤ, pos, negsuc, Some, arith}
use Rattle.std.specs.Char.{digit_value, is_whitespace}
use Rattle.std.specs.Fmt.{decimal, signed_decimal}
use Rattle.std.specs.Int.{IsInRange}
use Rattle.std.specs.Str.{skip_leading_whitespace}
use Rattle.std.specs.Str.Parse.{AllDigits, IsNumeral}
use Rattle.std.proofs.lemmas.Bool.Decides.{nat_tests}
use Rattle.std.proofs.lemmas.Fmt.{decimal_is_IsNumeral, first_decimal, decimal_digit}
use Rattle.std.proofs.lemmas.Str.Parse.{digit_from_value}
use Rattle.haya_text.proofs.Numerics.{digits_numeric}
use Rattle.haya_text.specs.Characters.{hyphen, is_numeric, run, behind_run, begins_with}
use Rattle.haya_numbers.specs.Characters.{zero_digit, is_delimiter}
use Rattle.haya_numbers.specs.NumericReading.{is_affix, magnitude, past_sign, number_front, spare_zeros, past_zeros, prefix_run, past_prefix}
use Rattle.haya_numbers.specs.NumericBack.{is_readable}
use Rattle.haya_numbers.proofs.Magnitudes.{own, hyphen_is_not, magnitude_some}

pub digit-numeric : (c : ℕ) → digit_value c < 10 → is_numeric c ≡ true
digit-numeric c h =
    let r : IsInRange 48 57 c = digit_from_value c h in
    let place : 48 + (c - 48) ≡ c = omega (arith, r.0) in
    rw place at (digits_numeric (c - 48) (omega (arith, r.0, r.1)))

-- a run of digits before something else
pub run-digits : (ds rest : List ℕ) → AllDigits 10 ds → begins_with is_numeric rest ≡ false → (run is_numeric (ds ++ rest) ≡ ds) × (behind_run is_numeric (ds ++ rest) ≡ rest)
run-digits [] [] a s = (refl, refl)
run-digits [] (c ∷ rest) a s = rw s (refl, refl)
run-digits (c ∷ ds) rest a s =
    let more = run-digits ds rest a.1 s in
    let here = digit-numeric c a.0 in
    rw here (ap (λ v. c ∷ v) more.0, more.1)

-- a number of digits begins with a digit
first_digit : (ds : List ℕ) → IsNumeral 10 ds → (c : ℕ) × (cs : List ℕ) × (ds ≡ c ∷ cs) × (digit_value c < 10)
first_digit [] h = absurd (omega (arith, h.0))
first_digit (c ∷ cs) h = (c, cs, refl, h.1.0)

-- a readable number is a magnitude
small_magnitude : (m : ℕ) → m < 2 ^ 31 → magnitude (decimal m) ≡ Some m
small_magnitude m s =
    let h = decimal_is_IsNumeral m (omega arith) in
    let p = own.from (decimal m) h.0.1 in
    magnitude_some (decimal m) p h.0.0 (rw h.1 s) ∙ ap Some h.1

-- digits aren't a sign, and a sign isn't numeric
digit-unsigned : (c : ℕ) → digit_value c < 10 → nat_eq c hyphen ≡ false
digit-unsigned c h = let r : IsInRange 48 57 c = digit_from_value c h in grind (arith, nat_tests)

unsigned_front : (m : ℕ) (rest : List ℕ) → m < 2 ^ 31 → (past_sign (decimal m ++ rest) ≡ decimal m ++ rest) × (begins_with (λ c. nat_eq c hyphen) (decimal m ++ rest) ≡ false)
unsigned_front m rest s =
    let f = first_digit (decimal m) (decimal_is_IsNumeral m (omega arith)).0 in
    let e : decimal m ++ rest ≡ f.0 ∷ (f.1 ++ rest) = ap (λ v. v ++ rest) f.2 in
    let u = digit-unsigned f.0 f.3 in
    rw (e, u) (refl, refl)

-- a printed number is read back, before something else
pub number_front-signed : (n : ℤ) (rest : List ℕ) → is_readable n ≡ true → begins_with is_numeric rest ≡ false → number_front (signed_decimal n ++ rest) ≡ Some (n, rest)
number_front-signed (pos m) rest h s =
    let small : m < 2 ^ 31 = grind (arith, nat_tests) in
    let d = decimal_is_IsNumeral m (omega arith) in
    let r = run-digits (decimal m) rest d.0.1 s in
    let u = unsigned_front m rest small in
    rw (u.0, u.1, r.0, r.1, small_magnitude m small) refl
number_front-signed (negsuc m) rest h s =
    let small : suc m < 2 ^ 31 = grind (arith, nat_tests) in
    let d = decimal_is_IsNumeral (suc m) (omega arith) in
    let r = run-digits (decimal (suc m)) rest d.0.1 s in
    rw (r.0, r.1, small_magnitude (suc m) small) refl

-- a printed number begins with neither white space nor a prefix, and no zero of it is spare
pub skip-signed : (n : ℤ) (rest : List ℕ) → is_readable n ≡ true → skip_leading_whitespace (signed_decimal n ++ rest) ≡ signed_decimal n ++ rest
skip-signed (pos m) rest h =
    let small : m < 2 ^ 31 = grind (arith, nat_tests) in
    let f = first_digit (decimal m) (decimal_is_IsNumeral m (omega arith)).0 in
    let e : decimal m ++ rest ≡ f.0 ∷ (f.1 ++ rest) = ap (λ v. v ++ rest) f.2 in
    let r : IsInRange 48 57 f.0 = digit_from_value f.0 f.3 in
    let b : is_whitespace f.0 ≡ false = grind (arith, nat_tests) in
    rw (e, b) refl
skip-signed (negsuc m) rest h = refl

no_affix : (c : ℕ) → is_numeric c ≡ true → is_affix c ≡ false
no_affix c h = rw h refl

pub front-signed : (n : ℤ) (rest : List ℕ) → is_readable n ≡ true → begins_with is_numeric rest ≡ false
    → (begins_with is_affix (signed_decimal n ++ rest) ≡ false) × (spare_zeros (signed_decimal n ++ rest) ≡ []) × (past_zeros (signed_decimal n ++ rest) ≡ signed_decimal n ++ rest)
front-signed (negsuc m) rest h s = rw hyphen_is_not (refl, refl, refl)
front-signed (pos zero) rest h s =
    let e : decimal 0 ++ rest ≡ 48 ∷ rest = ap (λ v. v ++ rest) (decimal_digit 0 (omega arith)) in
    let d = digits_numeric 0 (omega arith) in
    rw (e, d, s) (refl, refl, refl)
front-signed (pos (suc m)) rest h s =
    let small : suc m < 2 ^ 31 = grind (arith, nat_tests) in
    let f = first_digit (decimal (suc m)) (decimal_is_IsNumeral (suc m) (omega arith)).0 in
    let e : decimal (suc m) ++ rest ≡ f.0 ∷ (f.1 ++ rest) = ap (λ v. v ++ rest) f.2 in
    let k : 48 < get_or (decimal (suc m)) 0 0 = first_decimal (suc m) (omega arith) (omega arith) in
    let above : 48 < f.0 = rw f.2 at k in
    let z : nat_eq f.0 zero_digit ≡ false = grind (arith, nat_tests) in
    let d = digit-numeric f.0 f.3 in
    rw (e, no_affix f.0 d, z) (refl, refl, refl)

unprefixed : (cs : List ℕ) → begins_with is_affix cs ≡ false → (run is_affix cs ≡ []) × (behind_run is_affix cs ≡ cs)
unprefixed [] h = (refl, refl)
unprefixed (c ∷ cs) h = rw h (refl, refl)

pub prefix-signed : (n : ℤ) (rest : List ℕ) → is_readable n ≡ true → begins_with is_numeric rest ≡ false → (prefix_run (signed_decimal n ++ rest) ≡ []) × (past_prefix (signed_decimal n ++ rest) ≡ signed_decimal n ++ rest)
prefix-signed n rest h s =
    let f = front-signed n rest h s in
    let u = unprefixed (signed_decimal n ++ rest) f.0 in
    rw (u.0, u.1, f.1, f.2) (refl, refl)

-- a printed number from 0 on begins with a digit
pub pos-numeric : (m : ℕ) (rest : List ℕ) → m < 2 ^ 31 → begins_with is_numeric (decimal m ++ rest) ≡ true
pos-numeric m rest small =
    let f = first_digit (decimal m) (decimal_is_IsNumeral m (omega arith)).0 in
    let e : decimal m ++ rest ≡ f.0 ∷ (f.1 ++ rest) = ap (λ v. v ++ rest) f.2 in
    rw e (digit-numeric f.0 f.3)

-- digits are no delimiters
pub run-undelimited : (m : ℕ) (rest : List ℕ) → m < 2 ^ 31 → (run is_delimiter (decimal m ++ rest) ≡ []) × (behind_run is_delimiter (decimal m ++ rest) ≡ decimal m ++ rest)
run-undelimited m rest s =
    let f = first_digit (decimal m) (decimal_is_IsNumeral m (omega arith)).0 in
    let e : decimal m ++ rest ≡ f.0 ∷ (f.1 ++ rest) = ap (λ v. v ++ rest) f.2 in
    let r : IsInRange 48 57 f.0 = digit_from_value f.0 f.3 in
    let d : is_delimiter f.0 ≡ false = grind (arith, nat_tests) in
    rw (e, d) (refl, refl)
