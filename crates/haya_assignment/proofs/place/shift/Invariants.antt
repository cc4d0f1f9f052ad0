use Rattle.std.proofs.Common.{◌≡◌, ℕ, Bool, List, false, ◌<◌, length, get_or}
use Rattle.haya_assignment.specs.Shift.{AreKept, IsReady}
use Rattle.haya_assignment.proofs.place.shift.Given as goal

abbrev pub invariant-back : goal.invariant-back
invariant-back l =
    record {
      in_reached : l.at < length l.reached.members.items;
      as_long : length l.positions ≡ length l.fn.positions;
      kept : (stays : List Bool) → ((t : ℕ) → 0 < t → t < length l.reached.members.items → get_or stays (get_or l.reached.members.items t 0) false ≡ false) →
          AreKept stays l.fn.positions l.positions;
      ready : (A : ℕ → ℕ → Bool) (bound : ℕ) → IsReady A bound l.member l.fn.positions l.reached l.fn.at l.fn.position → IsReady A bound l.member l.positions l.reached l.at l.position;
    }

abbrev pub decreases-back : goal.decreases-back
decreases-back l = l.at
