use Rattle.std.proofs.Common.{◌∷◌, []}
use Rattle.haya_entry.specs.Tree.{view}
use Rattle.haya_printing.proofs.lines.is_said.Goals as goal

pub returns-in-Ok-clause-no : goal.returns-in-Ok-clause-no
returns-in-Ok-clause-no c = λ other said. c.is_alone.ensures.no other (c.one_library.ensures c.args.text.now c.in-Ok.read (view c.args.entry.now ∷ []) c.in-Ok.ensures.ok said)
