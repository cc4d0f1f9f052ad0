use Rattle.haya_assignment.proofs.LawsOfLists.{greedy_finds}
use Rattle.haya_assignment.proofs.laws.greedy_finds.Goals as goal

pub returns : goal.returns
returns c = greedy_finds
