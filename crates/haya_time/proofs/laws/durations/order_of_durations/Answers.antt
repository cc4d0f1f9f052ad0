use Rattle.std.proofs.Common.{refl}
use Rattle.haya_time.specs.DurationOrder.{IsTotalOrder-duration_cmp}
use Rattle.haya_time.proofs.DurationOrders.{eq-same, same-eq, equal-same, same-equal, range_eq-same, same-range_eq}
use Rattle.haya_time.proofs.laws.durations.order_of_durations.Goals as goal

pub returns : goal.returns
returns c = record {
  same = λ a b. refl;
  total = IsTotalOrder-duration_cmp;
  equal = λ a b. (equal-same a b, same-equal a b);
  eq = λ a b. (eq-same a b, same-eq a b);
  range_eq = λ a b. (range_eq-same a b, same-range_eq a b);
}
