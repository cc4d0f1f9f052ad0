use Rattle.haya_line_library.proofs.Parts.{lines-append, Describes-append, Describes-many}
use Rattle.haya_line_library.proofs.laws.text_in_parts.Goals as goal

pub returns-clause-lines : goal.returns-clause-lines
returns-clause-lines c = lines-append

pub returns-clause-two : goal.returns-clause-two
returns-clause-two c = Describes-append

pub returns-clause-many : goal.returns-clause-many
returns-clause-many c = Describes-many
