use Rattle.std.proofs.Common.{◌≡◌, ◌+◌, ◌*◌, ◌≤◌, length}
use Rattle.haya_assignment.specs.Assignment.{rows}
use Rattle.haya_assignment.specs.Placed.{accepts, IsPlaced}
use Rattle.haya_assignment.proofs.assignment.complete.Given as goal

abbrev pub invariant-members : goal.invariant-members
invariant-members l =
    record {
      as_many : length l.positions.items ≡ l.member;
      placed : IsPlaced (accepts (rows l.table)) l.positions.items;
      least : l.fn.steps + l.member ≤ l.steps + length l.fn.start.items;
      most : l.steps + length l.fn.start.items * (length l.table * l.parents) ≤ l.fn.steps + l.member * (length l.table * l.parents);
    }
