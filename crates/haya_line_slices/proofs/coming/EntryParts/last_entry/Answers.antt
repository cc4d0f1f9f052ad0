use Rattle.std.proofs.Common.{subst}
use Rattle.haya_line_slices.specs.Scan.{EndsAt}
use Rattle.haya_line_slices.proofs.EntryEnds.{entry-ended}
use Rattle.haya_line_slices.proofs.coming.EntryParts.last_entry.Goals as goal

pub returns-then-entry_len-held : goal.returns-then-entry_len-held
returns-then-entry_len-held c = λ taken parts begins.
    entry-ended c.args.self.now taken c.args.held.now parts begins c.requires.place
    (subst (EndsAt c.args.held.now) c.if-entry_len-held.true c.entry_len.ensures)
