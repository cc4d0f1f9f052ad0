use Rattle.std.proofs.Common.{true}
use Rattle.haya_command.proofs.SaidWhole.{whole_given}
use Rattle.haya_command.proofs.printing.whole_lines.Goals as goal

pub returns-clause-lines : goal.returns-clause-lines
returns-clause-lines c = whole_given true c.args.hit.now c.entry_lines.result c.entry_lines.ensures.text c.entry_lines.ensures.said
