use Rattle.std.proofs.Common.{◌≡◌, true}
use Rattle.haya_entry.specs.declared.field_name.FieldName.{FieldName}
use Rattle.haya_entry.specs.Names.{has_field}
use Rattle.haya_entry.specs.Tree.{view}
use Rattle.haya_selectors.specs.NameNumbers.{IsIn}
use Rattle.haya_selectors.proofs.names.has_each.Given as goal

-- the fields that are left are some of all; the entry has the others
abbrev pub invariant-fields : goal.invariant-fields
invariant-fields l =
    ((f : FieldName) → IsIn f l.left → IsIn f l.fields)
    × ((f : FieldName) → IsIn f l.fields → (IsIn f l.left → ⊥) → has_field (view l.entry) f ≡ true)

abbrev pub decreases-fields : goal.decreases-fields
decreases-fields l = l.left
