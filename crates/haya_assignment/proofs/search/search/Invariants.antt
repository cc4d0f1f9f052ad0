use Rattle.std.proofs.Common.{◌≡◌, ℕ, ◌+◌, ◌*◌, ◌<◌, ◌≤◌, get_or, length}
use Rattle.haya_assignment.specs.Placed.{Grows}
use Rattle.haya_assignment.specs.Search.{acceptance, AreLayers, AreScanned, IsEarly, IsSearchedBelow, Reaches}
use Rattle.haya_assignment.proofs.search.search.Given as goal

abbrev pub invariant-positions : goal.invariant-positions
invariant-positions l =
    let A = acceptance l.by in
    record {
      reaches : Reaches A l.by.stays.now l.by.holders.now l.reached;
      grows : Grows l.fn.reached.members.items l.reached.members.items;
      as_long : length l.reached.seen.items ≡ length l.fn.reached.seen.items;
      scanned : AreScanned A l.by.stays.now l.by.holders.now l.by.alike.now l.reached;
      early : IsEarly l.position l.by.holders.now l.reached;
      searched : IsSearchedBelow A l.by.stays.now l.position l.by.holders.now l.reached.members.items;
      layered : AreLayers A l.by.stays.now l.by.holders.now l.reached.members.items l.layers.items;
      low : (t : ℕ) → t < length l.layers.items → get_or l.layers.items t 0 < l.position;
      onward : l.fn.steps ≤ l.steps;
      most : l.steps + l.by.parents ≤ l.fn.steps + l.position + length l.reached.members.items * l.by.parents;
    }
