use Rattle.std.proofs.Common.{◌+◌}
use Rattle.haya_parts.proofs.LineEnds.{all_behind, line_taken, looked_none, looked_within}
use Rattle.haya_parts.proofs.line_parts.LinePartsDivider.next.Goals as goal

pub line_end-requires-clause-within : goal.line_end-requires-clause-within
line_end-requires-clause-within c =
    looked_within c.args.self.now c.requires.0 c.args.held.now c.requires.1 c.requires.2

pub line_end-requires-clause-none : goal.line_end-requires-clause-none
line_end-requires-clause-none c =
    looked_none c.args.self.now c.requires.0 c.args.held.now c.requires.1 c.requires.2

pub returns-clause-takes : goal.returns-clause-takes
returns-clause-takes c = λ taken parts begins.
    rw (all_behind (c.in-Some.end + 1) c.args.held.now, c.without_return.ensures)
    (line_taken c.args.self.now taken c.args.held.now parts begins c.in-Some.end c.in-Some.ensures.feed)
