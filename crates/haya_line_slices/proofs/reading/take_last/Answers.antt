use Rattle.std.proofs.Common.{sym}
use Rattle.haya_line_slices.proofs.reading.take_last.Goals as goal

pub returns-in-Some-clause-closed : goal.returns-in-Some-clause-closed
returns-in-Some-clause-closed c =
    (c.end.new.self, c.in_ok-end.ensures.last, sym c.in-Some.ensures.entry)
