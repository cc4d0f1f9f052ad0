use Rattle.std.proofs.Common.{◌+◌, refl}
use Rattle.haya_parts.proofs.LineEnds.{all_behind}
use Rattle.haya_line_slices.proofs.EntryEnds.{entry-looked, entry-taken, looked-never, looked-within, placed-entry}
use Rattle.haya_line_slices.proofs.coming.EntryParts.entry.Goals as goal

pub entry_end-requires-clause-within : goal.entry_end-requires-clause-within
entry_end-requires-clause-within c =
    looked-within c.args.self.now c.requires.begun.0 c.args.held.now c.requires.begun.1 c.requires.begun.2

pub entry_end-requires-clause-none : goal.entry_end-requires-clause-none
entry_end-requires-clause-none c =
    looked-never c.args.self.now c.requires.begun.0 c.args.held.now c.requires.begun.1 c.requires.begun.2
    c.requires.place

pub returns-in-Feed-clause-takes : goal.returns-in-Feed-clause-takes
returns-in-Feed-clause-takes c = λ taken parts begins.
    rw (all_behind (c.in-Feed.end + 1) c.args.held.now)
    (placed-entry _ _ _ _ _ refl c.requires.place
    (entry-taken c.args.self.now taken c.args.held.now parts begins c.requires.place c.in-Feed.end
    c.in-Feed.ensures.0 c.in-Feed.ensures.1 c.in-Feed.ensures.2 c.in-Feed.ensures.3))

pub returns-in-Open-clause-takes : goal.returns-in-Open-clause-takes
returns-in-Open-clause-takes c = λ taken parts begins.
    placed-entry _ _ _ _ _ refl c.requires.place
    (entry-looked c.args.self.now taken c.args.held.now parts begins c.requires.place c.in-Open.looked
    c.in-Open.ensures.0 c.in-Open.ensures.1)
