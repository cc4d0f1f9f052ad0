use Rattle.std.proofs.Common.{◌≡◌, ℕ, ◌<◌, ◌≤◌, true, false, get_or, length}
use Rattle.haya_assignment.proofs.ranks.Ranks.below.Given as goal

abbrev pub invariant-members : goal.invariant-members
invariant-members l =
    record {
      as_many : length l.flags.items ≡ l.other;
      flags : (u : ℕ) → u < length l.flags.items → (get_or l.flags.items u false ≡ true → get_or l.self.ranks.items u 0 < l.rank) × (get_or l.flags.items u false ≡ false → l.rank ≤ get_or l.self.ranks.items u 0);
    }
