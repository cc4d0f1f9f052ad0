use Rattle.haya_time.specs.DateOrderLaws.{order-equal}
use Rattle.haya_time.proofs.DateOrders.{order-none, none-order}
use Rattle.haya_time.proofs.laws.dates.order_of_dates.Goals as goal

pub returns : goal.returns
returns c = record {
  equal = order-equal;
  unanswered = λ a b. (order-none a b, none-order a b);
}
