use Rattle.haya_run.proofs.OneOutput.{Shows-append, Shows-many}
use Rattle.haya_run.proofs.laws.runs_in_parts.Goals as goal

pub returns-clause-two : goal.returns-clause-two
returns-clause-two c = Shows-append

pub returns-clause-many : goal.returns-clause-many
returns-clause-many c = Shows-many
