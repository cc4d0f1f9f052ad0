use Rattle.haya_line_library.proofs.Takings.{Taken-start, Taken-line, Taken-fault, Taken-end}
use Rattle.haya_line_library.proofs.laws.lines_in_turn.Goals as goal

pub returns-clause-start : goal.returns-clause-start
returns-clause-start c = Taken-start

pub returns-clause-line : goal.returns-clause-line
returns-clause-line c before given chain taken line now takes = Taken-line before given chain taken line now takes

pub returns-clause-end : goal.returns-clause-end
returns-clause-end c = Taken-end

pub returns-clause-fault : goal.returns-clause-fault
returns-clause-fault c before given chain taken line more e fault = Taken-fault before given chain taken line more e fault
