use Rattle.haya_assignment.proofs.LawsOfLists.{no_least}
use Rattle.haya_assignment.proofs.laws.no_least.Goals as goal

pub returns : goal.returns
returns c = no_least
