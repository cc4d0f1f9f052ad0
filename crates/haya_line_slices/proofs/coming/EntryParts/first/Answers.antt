use Rattle.std.proofs.Common.{refl}
use Rattle.haya_line_slices.proofs.EntryEnds.{first-begins, placed-entry}
use Rattle.haya_line_slices.proofs.coming.EntryParts.first.Goals as goal

pub entry-requires-clause-begun : goal.entry-requires-clause-begun
entry-requires-clause-begun c = (
  c.requires.begun.0,
  c.requires.begun.1,
  placed-entry _ _ _ _ _ refl refl
      (first-begins c.args.self.now c.requires.begun.0 c.args.held.now c.requires.begun.1
      c.requires.begun.2 c.requires.place c.requires.begins),
)

pub returns-clause-takes : goal.returns-clause-takes
returns-clause-takes c = λ taken parts begins.
    c.entry.ensures.takes taken parts
    (placed-entry _ _ _ _ _ refl refl
    (first-begins c.args.self.now taken c.args.held.now parts begins c.requires.place c.requires.begins))
