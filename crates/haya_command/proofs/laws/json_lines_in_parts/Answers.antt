use Rattle.haya_command.proofs.JsonParts.{Describes-append, Describes-many, IsListOf-append, IsListOf-many}
use Rattle.haya_command.proofs.laws.json_lines_in_parts.Goals as goal

pub returns-clause-list : goal.returns-clause-list
returns-clause-list c = IsListOf-append

pub returns-clause-lists : goal.returns-clause-lists
returns-clause-lists c = IsListOf-many

pub returns-clause-two : goal.returns-clause-two
returns-clause-two c = Describes-append

pub returns-clause-many : goal.returns-clause-many
returns-clause-many c = Describes-many
