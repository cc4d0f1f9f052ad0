use Rattle.haya_values.proofs.Orders.{typed_first-total}
use Rattle.haya_values.proofs.laws.order.Goals as goal

pub returns : goal.returns
returns c = record {
  number = typed_first-total c.order.ensures;
  pages = typed_first-total c.order-2.ensures.pages;
}
