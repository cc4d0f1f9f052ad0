use Rattle.haya_assignment.proofs.LawsOfLists.{short_has_none}
use Rattle.haya_assignment.proofs.laws.short_has_none.Goals as goal

pub returns : goal.returns
returns c = short_has_none
