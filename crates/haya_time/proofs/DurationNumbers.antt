-- Numbers by their digits, and the rounding of a fraction.
use Rattle.std.proofs.Common.{◌≡◌, ◌≢◌, ℕ, ◌+◌, ◌*◌, ◌/◌, ◌^◌, ◌<◌, ◌≤◌, nat_lt, true, false, cond, List, [], ◌∷◌, length, get_or, refl, ap, sym, ◌∙◌, zero, suc, arith, Some, None, Result, Ok, Err}
use Rattle.std.proofs.Math.Nat.{mul-le-mul_left, mul-le-mul_right, pow-succ'}
use Rattle.std.proofs.lemmas.Bool.Decides.{nat_tests}
use Rattle.std.proofs.lemmas.Int.Digits.{digits_value-lt}
use Rattle.std.proofs.lemmas.Nat.{div_below, le-div}
use Rattle.std.proofs.lemmas.Str.Parse.{without_leading_plus_none}
use Rattle.std.specs.Char.{is_ascii_digit, digit_value}
use Rattle.std.specs.List.{list_all}
use Rattle.std.specs.Result.{result_ok, OkIff}
use Rattle.std.specs.Str.Parse.{IsNumeral, ParsesUnsigned, digits_value_after, without_leading_plus}
use Rattle.haya_time.specs.DurationText.{number}
use Rattle.haya_time.specs.DurationValues.{milliseconds}
use Rattle.haya_text.proofs.Tells.{and-both}
use Rattle.haya_time.proofs.PrintedParts.{digits_model}

pub digit_small : (c : ℕ) → is_ascii_digit c ≡ true → digit_value c < 10
digit_small c h = grind (arith, nat_tests)

pub digit_is : (c : ℕ) → is_ascii_digit c ≡ true → digit_value c + 48 ≡ c
digit_is c h = grind (arith, nat_tests)

-- digits are a number below a power of ten
pub number-lt : (ds : List ℕ) → list_all is_ascii_digit ds ≡ true → number ds < 10 ^ length ds
number-lt ds h = digits_value-lt 10 ds (digits_model.to ds h)

no_plus : (ds : List ℕ) → list_all is_ascii_digit ds ≡ true → without_leading_plus ds ≡ ds
no_plus [] h = refl
no_plus (c ∷ cs) h =
    let p = and-both (is_ascii_digit c) (list_all is_ascii_digit cs) h in
    let other : get_or (c ∷ cs) 0 0 ≢ 43 = grind (arith, nat_tests) in
    without_leading_plus_none (c ∷ cs) other

-- what `parse` answers of digits
pub parsed : {E : Type 0} (k : ℕ) (ds : List ℕ) (r : Result ℕ E) → list_all is_ascii_digit ds ≡ true → 0 < length ds → ParsesUnsigned k 10 ds r → result_ok r ≡ cond (nat_lt (number ds) (2 ^ k)) (Some (number ds)) None
parsed {E} k ds r h some p = go r (rw (no_plus ds h) at p)
  where
    small : (x : ℕ) → number ds < 2 ^ k → x ≡ number ds → Some x ≡ cond (nat_lt (number ds) (2 ^ k)) (Some (number ds)) None
    small x l e = let t : nat_lt (number ds) (2 ^ k) ≡ true = grind (arith, nat_tests) in rw (t, e) refl

    large : ((number ds < 2 ^ k) → ⊥) → cond (nat_lt (number ds) (2 ^ k)) (Some (number ds)) None ≡ None
    large above = let t : nat_lt (number ds) (2 ^ k) ≡ false = grind (arith, nat_tests) in rw t refl

    go : (r : Result ℕ E) → OkIff r (IsNumeral 10 ds × (number ds < 2 ^ k)) (number ds) → result_ok r ≡ cond (nat_lt (number ds) (2 ^ k)) (Some (number ds)) None
    go (Ok x) p = small x p.0.1 p.1
    go (Err e) p = sym (large (λ l. p ((some, digits_model.to ds h), l)))

-- a number goes on with digits
goes_on : (n d P v w : ℕ) → v ≡ (n * 10 + d) * P + w → v ≡ n * (10 * P) + (d * P + w)
goes_on n d P v w e = grind arith

pub value_after : (n : ℕ) (ds : List ℕ) → digits_value_after 10 n ds ≡ n * 10 ^ length ds + number ds
value_after n [] = omega arith
value_after n (c ∷ cs) =
    let P : ℕ = 10 ^ length cs in
    let a = value_after (n * 10 + digit_value c) cs in
    let b : number (c ∷ cs) ≡ digit_value c * P + number cs = value_after (0 * 10 + digit_value c) cs ∙ ap (λ x. x * P + number cs) (omega arith) in
    let p : 10 ^ suc (length cs) ≡ 10 * P = pow-succ' 10 (length cs) in
    goes_on n (digit_value c) P _ (number cs) a ∙ (λ i. n * sym p i + sym b i)

-- what a loop over the digits has of a ten-thousandth, from this weight on
abbrev pub tenths : ℕ → List ℕ → ℕ
tenths w [] = 0
tenths w (c ∷ cs) = w * digit_value c + tenths (w / 10) cs

pub tenths_zero : (cs : List ℕ) → tenths 0 cs ≡ 0
tenths_zero [] = refl
tenths_zero (c ∷ cs) = omega (arith, tenths_zero cs)

-- from the first four digits on, the others don't tell
rounded_at : (a P b : ℕ) → 0 < P → b < P → (a + 5) / 10 ≡ ((a * P + b) * 2000 + 10000 * P) / (2 * (10000 * P))
rounded_at a P b pos small =
    let q : ℕ = (a + 5) / 10 in
    let low : q * 10 ≤ a + 5 = omega arith in
    let high : a + 6 ≤ (q + 1) * 10 = omega arith in
    let low_times = mul-le-mul_right P low in
    let high_times = mul-le-mul_right P high in
    let above = le-div q ((a * P + b) * 2000 + 10000 * P) (2 * (10000 * P)) (omega arith) (omega (arith, low_times)) in
    let below = div_below ((a * P + b) * 2000 + 10000 * P) (2 * (10000 * P)) (q + 1) (omega arith) (omega (arith, high_times)) in
    omega (arith, above, below)

ten_pos : (k : ℕ) → 0 < 10 ^ k
ten_pos zero = omega arith
ten_pos (suc k) = let p : 10 ^ suc k ≡ 10 * 10 ^ k = pow-succ' 10 k in omega (arith, p, ten_pos k)

four_more : (k : ℕ) → 10 ^ suc (suc (suc (suc k))) ≡ 10000 * 10 ^ k
four_more k =
    let a : 10 ^ suc (suc (suc (suc k))) ≡ 10 * 10 ^ suc (suc (suc k)) = pow-succ' 10 (suc (suc (suc k))) in
    let b : 10 ^ suc (suc (suc k)) ≡ 10 * 10 ^ suc (suc k) = pow-succ' 10 (suc (suc k)) in
    let c : 10 ^ suc (suc k) ≡ 10 * 10 ^ suc k = pow-succ' 10 (suc k) in
    let d : 10 ^ suc k ≡ 10 * 10 ^ k = pow-succ' 10 k in
    omega (arith, a, b, c, d)

-- the first four digits, rounded half up, are the whole fraction rounded half up
pub rounded : (ds : List ℕ) → list_all is_ascii_digit ds ≡ true → (tenths 1000 ds + 5) / 10 ≡ milliseconds ds
rounded [] h = refl
rounded (a ∷ []) h = omega arith
rounded (a ∷ b ∷ []) h = omega arith
rounded (a ∷ b ∷ c ∷ []) h = omega arith
rounded (a ∷ b ∷ c ∷ d ∷ rest) h =
    let P : ℕ = 10 ^ length rest in
    let n : ℕ = (((0 * 10 + digit_value a) * 10 + digit_value b) * 10 + digit_value c) * 10 + digit_value d in
    let pb = and-both (is_ascii_digit a) (list_all is_ascii_digit (b ∷ c ∷ d ∷ rest)) h in
    let pc = and-both (is_ascii_digit b) (list_all is_ascii_digit (c ∷ d ∷ rest)) pb.1 in
    let pd = and-both (is_ascii_digit c) (list_all is_ascii_digit (d ∷ rest)) pc.1 in
    let pr = and-both (is_ascii_digit d) (list_all is_ascii_digit rest) pd.1 in
    let first : tenths 1000 (a ∷ b ∷ c ∷ d ∷ rest) ≡ n = omega (arith, tenths_zero rest) in
    let whole : number (a ∷ b ∷ c ∷ d ∷ rest) ≡ n * P + number rest = value_after n rest in
    let power : 10 ^ length (a ∷ b ∷ c ∷ d ∷ rest) ≡ 10000 * P = four_more (length rest) in
    (λ i. (first i + 5) / 10) ∙ rounded_at n P (number rest) (ten_pos (length rest)) (number-lt rest pr.1)
    ∙ (λ i. (sym whole i * 2000 + sym power i) / (2 * sym power i))

-- one more digit is read
pub tenths_step : (v w d t left whole : ℕ) → v + t ≡ whole → t ≡ w * d + left → d < 10 → v + 10 * w ≤ 10000 → (v + w * d + left ≡ whole) × (v + w * d + 10 * (w / 10) ≤ 10000)
tenths_step v w d t left whole e f small fits =
    let nine : d ≤ 9 = omega arith in
    let times = mul-le-mul_left w nine in
    (omega arith, omega (arith, times))

-- two digits are a number below a hundred
pub two-small : (ds : List ℕ) → list_all is_ascii_digit ds ≡ true → length ds ≡ 2 → number ds < 100
two-small ds h e = rw e at (number-lt ds h)

pub two-parsed : (ds : List ℕ) → list_all is_ascii_digit ds ≡ true → length ds ≡ 2 → cond (nat_lt (number ds) (2 ^ 32)) (Some (number ds)) None ≡ Some (number ds)
two-parsed ds h e =
    let s = two-small ds h e in
    let t : nat_lt (number ds) (2 ^ 32) ≡ true = grind (arith, nat_tests) in
    rw t refl

pub none-some : (x : ℕ) → None ≡ Some x → ⊥
none-some x h = cc

pub some-same : {A : Type 0} (x y : A) → Some x ≡ Some y → x ≡ y
some-same x y h = cc
