use Rattle.std.proofs.Common.{rules}
use Rattle.haya_time.proofs.PrintedParts.{styled-two, styled-three}
use Rattle.haya_time.proofs.duration.print.HoursDisplay.fmt.Goals as goal

pub returns-then-hours-gt0-clause-writes : goal.returns-then-hours-gt0-clause-writes
returns-then-hours-gt0-clause-writes g c = search (rules, styled-two, styled-three)
