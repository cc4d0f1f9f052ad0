use Rattle.std.proofs.Common.{◌≡◌, ℕ, ◌<◌, ◌≤◌, get_or, length}
use Rattle.haya_assignment.specs.Placed.{Grows}
use Rattle.haya_assignment.proofs.search.fill.Given as goal

abbrev pub invariant-members : goal.invariant-members
invariant-members l =
    record {
      as_many : length l.layers.items ≡ l._member;
      grows : Grows l.fn.layers.items l.layers.items;
      filled : (t : ℕ) → length l.fn.layers.items ≤ t → t < l._member → get_or l.layers.items t 0 ≡ l.layer;
    }
