use Rattle.haya_entry.specs.Tree.{view}
use Rattle.haya_lines.proofs.FieldsRead.{Left}
use Rattle.haya_lines.proofs.field.read_fields.Given as goal

abbrev pub invariant-items : goal.invariant-items
invariant-items l = Left (view l.fn.entry) l.fn.items (view l.entry) l.item-iterator
