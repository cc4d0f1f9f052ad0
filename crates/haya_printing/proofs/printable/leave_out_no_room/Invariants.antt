use Rattle.haya_entry.specs.Tree.{fields, view}
use Rattle.haya_printing.specs.LeftOut.{IsAlone, LeavesMore}
use Rattle.haya_printing.proofs.printable.leave_out_no_room.Given as goal

abbrev pub invariant-parts : goal.invariant-parts
invariant-parts l = record {
  alone : IsAlone (view l.entry);
  leaves : LeavesMore l.fn.parts.items l.parts.items (fields (view l.fn.entry)) (fields (view l.entry));
}
