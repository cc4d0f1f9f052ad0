use Rattle.haya_bibtex_text.proofs.Outcome.{not_both, same_bibliography, same_fault, some_outcome}
use Rattle.haya_bibtex_text.proofs.laws.one_outcome.Goals as goal

pub returns-clause-bibliography : goal.returns-clause-bibliography
returns-clause-bibliography c = same_bibliography

pub returns-clause-fault : goal.returns-clause-fault
returns-clause-fault c = same_fault

pub returns-clause-either : goal.returns-clause-either
returns-clause-either c = not_both

pub returns-clause-some : goal.returns-clause-some
returns-clause-some c = some_outcome
