use Rattle.std.proofs.Common.{◌≡◌, ◌<◌, length, All}
use Rattle.haya_assignment.proofs.order.rarest_first.Given as goal

abbrev pub invariant-positions : goal.invariant-positions
invariant-positions l =
    record {
      as_many : length l.order.items ≡ l.position;
      known : All (λ j. j < l.parents) l.order.items;
    }
