use Rattle.std.proofs.Common.{◌≡◌, true}
use Rattle.std.specs.Prelude.{◌↔◌}
use Rattle.haya_entry.specs.declared.field_name.FieldName.{FieldName}
use Rattle.haya_entry.specs.Names.{has_field}
use Rattle.haya_entry.specs.Tree.{view}
use Rattle.haya_selectors.specs.NameNumbers.{IsIn}
use Rattle.haya_selectors.proofs.names.had_of.Given as goal

-- the fields that are left are still in both sets; of the others, those stay that the entry has
abbrev pub invariant-fields : goal.invariant-fields
invariant-fields l =
    ((f : FieldName) → IsIn f l.left → IsIn f l.asked × IsIn f l.had)
    × ((f : FieldName) → IsIn f l.asked → (IsIn f l.left → ⊥) → IsIn f l.had ↔ (has_field (view l.entry) f ≡ true))

abbrev pub decreases-fields : goal.decreases-fields
decreases-fields l = l.left
