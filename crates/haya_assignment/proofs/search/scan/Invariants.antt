use Rattle.std.proofs.Common.{◌≡◌, ℕ, ◌+◌, ◌<◌, ◌≤◌, true, get_or, length}
use Rattle.haya_assignment.specs.Placed.{Grows}
use Rattle.haya_assignment.specs.Search.{acceptance, IsClosed, IsEarly, Reaches}
use Rattle.haya_assignment.proofs.search.scan.Given as goal

abbrev pub invariant-positions : goal.invariant-positions
invariant-positions l =
    let A = acceptance l.by in
    record {
      reaches : Reaches A l.by.stays.now l.by.holders.now l.reached;
      grows : Grows l.fn.reached.members.items l.reached.members.items;
      as_long : length l.reached.seen.items ≡ length l.fn.reached.seen.items;
      scanned : l.reached.scanned.items ≡ l.fn.reached.scanned.items;
      early : (bound : ℕ) → IsEarly bound l.by.holders.now l.fn.reached → IsEarly bound l.by.holders.now l.reached;
      closed : (j : ℕ) → j < l.position → A (get_or l.fn.reached.members.items l.at 0) j ≡ true → IsClosed l.by.stays.now l.by.holders.now l.reached.members.items j;
      onward : l.fn.steps ≤ l.steps;
      most : l.steps ≤ l.fn.steps + l.position;
    }
