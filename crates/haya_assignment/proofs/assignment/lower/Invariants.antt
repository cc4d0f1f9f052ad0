use Rattle.std.proofs.Common.{◌≡◌, ◌+◌, ◌*◌, ◌≤◌, length}
use Rattle.haya_assignment.specs.Assignment.{rows}
use Rattle.haya_assignment.specs.Placed.{accepts, IsLeastBelow, IsPlaced}
use Rattle.haya_assignment.specs.Ranked.{AreRanked}
use Rattle.haya_assignment.proofs.assignment.lower.Given as goal

abbrev pub invariant-members : goal.invariant-members
invariant-members l =
    record {
      one_each : length l.positions ≡ length l.table;
      placed : IsPlaced (accepts (rows l.table)) l.positions;
      least : IsLeastBelow (accepts (rows l.table)) l.member l.positions;
      ranked : AreRanked (accepts (rows l.table)) l.member l.ranks l.positions;
      onward : l.fn.steps ≤ l.steps;
      most : l.steps ≤ l.fn.steps + l.member * (length l.table * l.parents);
    }
