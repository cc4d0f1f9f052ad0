use Rattle.haya_people.proofs.TableLemmas.{sorted-as_std}
use Rattle.haya_people.proofs.laws.orders.tables_in_order.Goals as goal

pub returns : goal.returns
returns c = sorted-as_std
