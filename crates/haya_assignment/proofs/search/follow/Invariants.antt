use Rattle.std.proofs.Common.{◌≡◌, ℕ, ◌+◌, ◌-◌, ◌*◌, ◌<◌, ◌≤◌, length}
use Rattle.haya_assignment.specs.Placed.{Grows}
use Rattle.haya_assignment.specs.Search.{acceptance, AreScanned, IsEarly, IsSearched, Reaches}
use Rattle.haya_assignment.proofs.search.follow.Given as goal

abbrev pub invariant-members : goal.invariant-members
invariant-members l =
    let A = acceptance l.by in
    record {
      reaches : Reaches A l.by.stays.now l.by.holders.now l.reached;
      grows : Grows l.fn.reached.members.items l.reached.members.items;
      as_long : length l.reached.seen.items ≡ length l.fn.reached.seen.items;
      scanned : AreScanned A l.by.stays.now l.by.holders.now l.by.alike.now l.reached;
      early : (bound : ℕ) → IsEarly bound l.by.holders.now l.fn.reached → IsEarly bound l.by.holders.now l.reached;
      searched : IsSearched A l.by.stays.now l.at l.by.holders.now l.reached.members.items;
      later : 0 < l.at;
      from_start : l.start ≤ l.at;
      within : l.at ≤ length l.reached.members.items;
      onward : l.fn.steps ≤ l.steps;
      most : l.steps + l.start * l.by.parents ≤ l.fn.steps + l.at * l.by.parents;
    }

abbrev pub decreases-members : goal.decreases-members
decreases-members l = length l.reached.seen.items - l.at
