use Rattle.haya_selectors.proofs.ParentSides.{names_change_no_answer}
use Rattle.haya_selectors.proofs.laws.names_change_no_answer.Goals as goal

pub returns : goal.returns
returns c = names_change_no_answer
