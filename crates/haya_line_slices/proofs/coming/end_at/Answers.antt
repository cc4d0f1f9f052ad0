use Rattle.std.proofs.Common.{rules}
use Rattle.haya_line_slices.proofs.EntryEnds.{another-byte}
use Rattle.haya_line_slices.proofs.coming.end_at.Goals as goal

pub returns-then-held-at-ne10-clause-none : goal.returns-then-held-at-ne10-clause-none
returns-then-held-at-ne10-clause-none c =
    another-byte c.args.held.now c.args.at c.requires.within c.requires.none (search rules)
