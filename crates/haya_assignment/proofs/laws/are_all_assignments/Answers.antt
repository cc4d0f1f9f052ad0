use Rattle.haya_assignment.proofs.LawsOfLists.{are_all_assignments}
use Rattle.haya_assignment.proofs.laws.are_all_assignments.Goals as goal

pub returns : goal.returns
returns c = are_all_assignments
