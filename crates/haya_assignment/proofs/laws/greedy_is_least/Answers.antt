use Rattle.haya_assignment.proofs.LawsOfLists.{greedy_is_least}
use Rattle.haya_assignment.proofs.laws.greedy_is_least.Goals as goal

pub returns : goal.returns
returns c = greedy_is_least
