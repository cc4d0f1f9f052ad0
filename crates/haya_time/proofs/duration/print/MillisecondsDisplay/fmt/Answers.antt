use Rattle.std.proofs.Common.{rules}
use Rattle.haya_time.proofs.PrintedParts.{styled-two, styled-three}
use Rattle.haya_time.proofs.duration.print.MillisecondsDisplay.fmt.Goals as goal

pub returns-then-milliseconds-gt0-clause-writes : goal.returns-then-milliseconds-gt0-clause-writes
returns-then-milliseconds-gt0-clause-writes g c = search (rules, styled-two, styled-three)
