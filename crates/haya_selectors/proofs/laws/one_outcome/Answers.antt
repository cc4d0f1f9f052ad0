use Rattle.haya_selectors.proofs.OneOutcome.{one_list_outcome, one_outcome}
use Rattle.haya_selectors.proofs.laws.one_outcome.Goals as goal

pub returns-clause-forms : goal.returns-clause-forms
returns-clause-forms c = one_outcome

pub returns-clause-lists : goal.returns-clause-lists
returns-clause-lists c = one_list_outcome
