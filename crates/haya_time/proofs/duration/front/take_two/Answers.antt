use Rattle.std.proofs.Common.{arith, ◌≡◌, ◌∙◌, ℕ, List, length}
use Rattle.haya_time.specs.DurationText.{number}
use Rattle.haya_time.proofs.DurationNumbers.{two-small, two-parsed, none-some, some-same}
use Rattle.haya_time.proofs.duration.front.take_two.Goals as goal

pub returns-in_err-value : goal.returns-in_err-value
returns-in_err-value c =
    let ds : List ℕ = c.in_ok-digits.digits.now in
    let two : length ds ≡ 2 = omega (arith, c.if-digits-ne2.false) in
    absurd (none-some (number ds) (c.in_err-value.ensures ∙ two-parsed ds c.in_ok-digits.ensures.digits two))

pub overflow_cast-result : goal.overflow_cast-result
overflow_cast-result c =
    let ds : List ℕ = c.in_ok-digits.digits.now in
    let two : length ds ≡ 2 = omega (arith, c.if-digits-ne2.false) in
    let same : c.in_ok-value.value ≡ number ds = some-same _ _ (c.in_ok-value.ensures ∙ two-parsed ds c.in_ok-digits.ensures.digits two) in
    omega (arith, same, two-small ds c.in_ok-digits.ensures.digits two)
