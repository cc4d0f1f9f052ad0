use Rattle.std.proofs.Common.{◌≡◌, drop}
use Rattle.haya_entry.specs.Tree.{fields, view}
use Rattle.haya_printing.specs.LeftOut.{IsAlone}
use Rattle.haya_printing.specs.Parts.{without_fields}
use Rattle.haya_printing.proofs.parts.leave_out_fields.Given as goal

-- without those that are left it is without all
abbrev pub invariant-names : goal.invariant-names
invariant-names l = record {
  alone : IsAlone (view l.entry);
  left : without_fields (drop l.name-index l.names) (fields (view l.entry)) ≡ without_fields l.names (fields (view l.fn.entry));
}
