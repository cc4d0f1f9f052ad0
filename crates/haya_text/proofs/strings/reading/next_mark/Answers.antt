use Rattle.std.proofs.Common.{arith}
use Rattle.haya_text.proofs.Scans.{scan-eaten, scan_of_mark-opened}
use Rattle.haya_text.proofs.strings.reading.next_mark.Goals as goal

pub returns-in-123-clause-reads : goal.returns-in-123-clause-reads
returns-in-123-clause-reads c = λ depth math. scan_of_mark-opened depth math _ _ c.in_ok-c.c c.in_ok-c.ensures.taken.rest c.in-123.is

pub returns-in_default-clause-reads : goal.returns-in_default-clause-reads
returns-in_default-clause-reads c = λ depth math. scan-eaten depth math _ _ c.in_ok-c.c c.in_ok-c.ensures.taken.rest (omega arith) (omega arith) (omega arith) (omega arith)
