use Rattle.std.proofs.Common.{◌≡◌, ◌≤◌, length, take}
use Rattle.std.specs.Prelude.{◌-◌}
use Rattle.haya_assignment.specs.Assignment.{rows}
use Rattle.haya_selectors.specs.Tries.{all_held, rows_of}
use Rattle.haya_selectors.proofs.tries.Tries.write_table.Given as goal

abbrev pub decreases-room : goal.decreases-room
decreases-room l = l.members - length l.table.items

abbrev pub invariant-members : goal.invariant-members
invariant-members l =
    record {
      enough : l.members ≤ length l.table.items;
      rows : rows (take l.member l.table.items) ≡ rows_of l.parents l.member (all_held l.self);
    }
