use Rattle.haya_entry.specs.Tree.{view}
use Rattle.haya_lines.proofs.FieldsRead.{Left-yielded}
use Rattle.haya_lines.proofs.field.read_fields.Goals as goal

pub items-preserved : goal.items-preserved
items-preserved c =
    Left-yielded _ _ (view c.items.entry) _ _ (view c.read_field.new.entry) _ c.in-Some.ensures.steps c.items.invariant c.in_ok-read_field.ensures.ok
