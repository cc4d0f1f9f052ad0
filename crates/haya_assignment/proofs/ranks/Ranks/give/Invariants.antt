use Rattle.std.proofs.Common.{◌≡◌, ◌≢◌, ℕ, ◌+◌, ◌<◌, get_or, length}
use Rattle.haya_assignment.proofs.ranks.Ranks.give.Given as goal

abbrev pub invariant-places : goal.invariant-places
invariant-places l =
    record {
      as_long : length l.self.ranks.items ≡ length l.fn.self.ranks.items;
      top : l.self.top ≡ l.fn.self.top;
      next : l.self.next ≡ l.fn.self.next;
      others : (u : ℕ) → ((t : ℕ) → 0 < t → t < l.place → t < length l.layers → get_or l.members t 0 ≢ u) → get_or l.self.ranks.items u 0 ≡ get_or l.fn.self.ranks.items u 0;
      given : (t : ℕ) → 0 < t → t < l.place → get_or l.self.ranks.items (get_or l.members t 0) 0 ≡ l.fn.self.next + get_or l.layers t 0;
    }
