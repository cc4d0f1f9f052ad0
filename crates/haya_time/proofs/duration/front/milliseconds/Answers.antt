use Rattle.std.proofs.Common.{◌≡◌, ◌+◌, ◌-◌, ◌*◌, ◌/◌, ◌<◌, ℕ, List, true, ◌∷◌, drop, length, get_or, drop-cons, suc, sym, ap, ◌∙◌, arith}
use Rattle.std.proofs.lemmas.List.{drop_all}
use Rattle.std.specs.Char.{is_ascii_digit, digit_value}
use Rattle.std.specs.List.{list_all}
use Rattle.haya_text.proofs.Tells.{and-both}
use Rattle.haya_time.proofs.DurationNumbers.{rounded, tenths, tenths_step, digit_is, digit_small}
use Rattle.haya_time.proofs.duration.front.milliseconds.Goals as goal

-- the next digit of those that are left
pub record Next (items : List ℕ) (i w : ℕ) : Type 0 where
  pub digit : is_ascii_digit (get_or items i 0) ≡ true
  pub value : get_or items i 0 - 48 ≡ digit_value (get_or items i 0)
  pub left : list_all is_ascii_digit (drop (i + 1) items) ≡ true
  pub read : tenths w (drop i items) ≡ w * (get_or items i 0 - 48) + tenths (w / 10) (drop (i + 1) items)

next : (items : List ℕ) (i w : ℕ) → i < length items → list_all is_ascii_digit (drop i items) ≡ true → Next items i w
next items i w l h =
    let e : drop i items ≡ get_or items i 0 ∷ drop (i + 1) items =
    let more : suc i ≡ i + 1 = omega arith in drop-cons items i 0 l ∙ ap (λ k. get_or items i 0 ∷ drop k items) more in
    let p = and-both (is_ascii_digit (get_or items i 0)) (list_all is_ascii_digit (drop (i + 1) items)) (sym (ap (list_all is_ascii_digit) e) ∙ h) in
    let d = digit_is (get_or items i 0) p.0 in
    let v : get_or items i 0 - 48 ≡ digit_value (get_or items i 0) = omega arith in
    record {
      digit = p.0;
      value = v;
      left = p.1;
      read = ap (tenths w) e ∙ ap (λ x. w * x + tenths (w / 10) (drop (i + 1) items)) (sym v);
    }

pub digits-preserved : goal.digits-preserved
digits-preserved c =
    let items : List ℕ = c.as_bytes-digit-items.result.now in
    let i : ℕ = c.digits.digit-index in
    let w : ℕ = c.digits.weight in
    let n = next items i w c.digits-test.true c.digits.invariant.left in
    let same : c.from.result ≡ get_or items i 0 - 48 = c.from.ensures in
    let small : c.from.result < 10 = omega (arith, same, n.value, digit_small (get_or items i 0) n.digit) in
    let read : tenths w (drop i items) ≡ w * c.from.result + tenths (w / 10) (drop (i + 1) items) = n.read ∙ ap (λ x. w * x + tenths (w / 10) (drop (i + 1) items)) (sym same) in
    let step = tenths_step c.digits.ten_thousandths w c.from.result _ _ _ c.digits.invariant.read read small c.digits.invariant.fits in
    record { read = step.0; left = n.left; fits = step.1 }

pub returns : goal.returns
returns c =
    let items : List ℕ = c.as_bytes-digit-items.result.now in
    let value : items ≡ c.args.fraction.now = c.as_bytes-digit-items.ensures.value in
    let done : tenths c.digits.weight (drop c.digits.digit-index items) ≡ 0 = ap (tenths c.digits.weight) (drop_all c.digits.digit-index items c.digits-test.false) in
    let all : c.digits.ten_thousandths ≡ tenths 1000 c.args.fraction.now = omega (arith, done, c.digits.invariant.read) ∙ ap (tenths 1000) value in
    ap (λ x. (x + 5) / 10) all ∙ rounded c.args.fraction.now c.requires
