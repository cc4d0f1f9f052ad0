use Rattle.haya_entry.specs.Tree.{fields, view}
use Rattle.haya_printing.proofs.Leaving.{leaves_none, leaves_then}
use Rattle.haya_printing.proofs.printable.leave_out_no_room.Goals as goal

pub parts-init : goal.parts-init
parts-init c = record { alone = c.requires; leaves = leaves_none c.args.parts.now.items (fields (view c.args.entry.now)) }

pub parts-preserved : goal.parts-preserved
parts-preserved c = record {
  alone = c.in_ok-leave_out_if_there.ensures.alone;
  leaves = leaves_then _ _ _ _ _ _ c.parts.invariant.leaves c.in_ok-leave_out_if_there.ensures.leaves;
}
