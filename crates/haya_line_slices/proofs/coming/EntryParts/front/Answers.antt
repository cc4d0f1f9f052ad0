use Rattle.std.proofs.Common.{◌+◌, refl}
use Rattle.haya_parts.proofs.LineEnds.{all_behind}
use Rattle.haya_line_slices.proofs.EntryEnds.{line-taken, looked-none, looked-within, placed-front, front-looked}
use Rattle.haya_line_slices.proofs.coming.EntryParts.front.Goals as goal

pub line_end-requires-clause-within : goal.line_end-requires-clause-within
line_end-requires-clause-within c =
    looked-within c.args.self.now c.requires.begun.0 c.args.held.now c.requires.begun.1 c.requires.begun.2

pub line_end-requires-clause-none : goal.line_end-requires-clause-none
line_end-requires-clause-none c =
    looked-none c.args.self.now c.requires.begun.0 c.args.held.now c.requires.begun.1 c.requires.begun.2
    c.requires.place

pub returns-in-None-clause-takes : goal.returns-in-None-clause-takes
returns-in-None-clause-takes c = λ taken parts begins.
    placed-front _ _ taken parts c.args.held.now refl c.requires.place
    (front-looked c.args.self.now taken c.args.held.now parts begins c.requires.place c.in-None.ensures.none)

pub returns-in-Some-clause-takes : goal.returns-in-Some-clause-takes
returns-in-Some-clause-takes c = λ taken parts begins.
    rw (all_behind (c.in-Some.end + 1) c.args.held.now, c.without_return.ensures)
    (placed-front _ _ _ _ _ refl c.requires.place
    (line-taken c.args.self.now taken c.args.held.now parts begins c.requires.place c.requires.none
    c.in-Some.end c.in-Some.ensures.feed))
