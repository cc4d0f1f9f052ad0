-- Numbers that are read digit by digit.
use Rattle.std.proofs.Common.{◌≡◌, ℕ, ◌+◌, ◌*◌, ◌<◌, ◌≤◌, Bool, true, false, ◌&&◌, List, [], ◌∷◌, length, refl, sym, ◌∙◌, arith, Option, Some, None, cond, zero-add}
use Rattle.std.proofs.lemmas.Bool.Decides.{nat_tests}
use Rattle.std.specs.Prelude.{nat_lt, nat_le}
use Rattle.std.specs.Char.{is_ascii_digit, digit_value}
use Rattle.std.specs.Str.{all_ascii_digits}
use Rattle.std.specs.Str.Parse.{digits_value_after}
use Rattle.haya_time.specs.DateReading.{number_of}
use Rattle.haya_time.specs.DateSteps.{with_digits}

with_digits-none : (cs : List ℕ) → with_digits None cs ≡ None
with_digits-none [] = refl
with_digits-none (c ∷ cs) = with_digits-none cs

-- so many digits and their value, if they are at most four
abbrev counted : Bool → ℕ → ℕ → Option (ℕ × ℕ)
counted digits n v = cond (digits && nat_le n 4) (Some (n, v)) None

counted-high : (b : Bool) (n v : ℕ) → 4 < n → counted b n v ≡ None
counted-high true n v h = let t : nat_le n 4 ≡ false = grind (arith, nat_tests) in rw t refl
counted-high false n v h = refl

with_digits-some : (cs : List ℕ) (n v : ℕ) → n ≤ 4 → with_digits (Some (n, v)) cs ≡ counted (all_ascii_digits cs) (n + length cs) (digits_value_after 10 v cs)
with_digits-some [] n v h =
    let t : nat_le n 4 ≡ true = grind (arith, nat_tests) in
    let e : n + 0 ≡ n = omega arith in
    rw (e, t) refl
with_digits-some (c ∷ cs) n v h = by_digit (is_ascii_digit c) refl (nat_lt n 4) refl (with_digits-some cs (n + 1) (v * 10 + digit_value c))
  where
    by_digit : (b : Bool) → is_ascii_digit c ≡ b → (d : Bool) → nat_lt n 4 ≡ d
        → (n + 1 ≤ 4 → with_digits (Some (n + 1, v * 10 + digit_value c)) cs ≡ counted (all_ascii_digits cs) (n + 1 + length cs) (digits_value_after 10 (v * 10 + digit_value c) cs))
        → with_digits (cond (b && d) (Some (n + 1, v * 10 + digit_value c)) None) cs ≡ counted (b && all_ascii_digits cs) (n + length (c ∷ cs)) (digits_value_after 10 (v * 10 + digit_value c) cs)
    by_digit true i true j ih =
        let low : n + 1 ≤ 4 = grind (arith, nat_tests) in
        let e : n + 1 + length cs ≡ n + length (c ∷ cs) = omega arith in
        rw (← e) (ih low)
    by_digit true i false j ih =
        let high : 4 ≤ n = grind (arith, nat_tests) in
        let more : 4 < n + length (c ∷ cs) = omega arith in
        with_digits-none cs ∙ sym (counted-high (all_ascii_digits cs) (n + length (c ∷ cs)) _ more)
    by_digit false i d j ih = with_digits-none cs

-- read digit by digit, a run spells its number
pub spelled : (cs : List ℕ) → with_digits (Some (0, 0)) cs ≡ number_of cs
spelled cs =
    let low : 0 ≤ 4 = omega arith in
    let e : 0 + length cs ≡ length cs = zero-add (length cs) in
    rw e at (with_digits-some cs 0 0 low)
