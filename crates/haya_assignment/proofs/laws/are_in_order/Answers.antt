use Rattle.haya_assignment.proofs.LawsOfLists.{are_in_order}
use Rattle.haya_assignment.proofs.laws.are_in_order.Goals as goal

pub returns : goal.returns
returns c = are_in_order
