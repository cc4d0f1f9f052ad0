use Rattle.haya_run.proofs.Parts.{AreLinesAt-append, AreLinesAt-many}
use Rattle.haya_run.proofs.laws.output_in_parts.Goals as goal

pub returns-clause-two : goal.returns-clause-two
returns-clause-two c = AreLinesAt-append

pub returns-clause-many : goal.returns-clause-many
returns-clause-many c = AreLinesAt-many
