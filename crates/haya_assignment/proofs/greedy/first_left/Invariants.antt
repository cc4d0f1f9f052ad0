use Rattle.std.proofs.Common.{◌≡◌, ℕ, ◌+◌, ◌<◌, ◌≤◌, false, true, get_or}
use Rattle.haya_assignment.specs.Assignment.{rows}
use Rattle.haya_assignment.specs.Placed.{accepts}
use Rattle.haya_assignment.specs.declared.greedy.Order.TheVariants.{Ascending}
use Rattle.haya_assignment.proofs.greedy.first_left.Given as goal

abbrev pub invariant-positions : goal.invariant-positions
invariant-positions l =
    record {
      up : l.order ≡ Ascending → (other : ℕ) → other < l.looked → accepts (rows l.table) l.member other ≡ true → get_or l.taken other false ≡ true;
      onward : l.fn.steps ≤ l.steps;
      most : l.steps ≤ l.fn.steps + l.looked;
    }
