use Rattle.haya_hits.proofs.ShownKeys.{one_line, shown-apart}
use Rattle.haya_hits.proofs.laws.escaped_lines.Goals as goal

pub returns-clause-one_line : goal.returns-clause-one_line
returns-clause-one_line c = one_line

pub returns-clause-apart : goal.returns-clause-apart
returns-clause-apart c = shown-apart
