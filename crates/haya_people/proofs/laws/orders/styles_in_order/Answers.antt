use Rattle.haya_people.proofs.Styles.{styles_total}
use Rattle.haya_people.proofs.laws.orders.styles_in_order.Goals as goal

pub returns : goal.returns
returns c = styles_total
