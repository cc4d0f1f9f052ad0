use Rattle.haya_assignment.proofs.LawsOfLists.{least_comes_first}
use Rattle.haya_assignment.proofs.laws.least_comes_first.Goals as goal

pub returns : goal.returns
returns c = least_comes_first
