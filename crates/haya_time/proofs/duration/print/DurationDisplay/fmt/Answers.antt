use Rattle.std.proofs.Common.{rules}
use Rattle.haya_time.proofs.PrintedParts.{styled-two}
use Rattle.haya_time.proofs.duration.print.DurationDisplay.fmt.Goals as goal

pub returns-clause-writes : goal.returns-clause-writes
returns-clause-writes g c = search (rules, styled-two)
