use Rattle.std.proofs.Common.{◌≡◌, ◌≤◌, ℕ, get_or, length, take}
use Rattle.std.specs.List.{count_by}
use Rattle.haya_asked.specs.Placed.{is_at}
use Rattle.haya_asked.proofs.duplicates.counts_of.Given as goal

-- the counts of the hits so far
abbrev pub invariant-placed : goal.invariant-placed
invariant-placed l = record {
  len : length l.counts.items ≡ length l.placed;
  counts : (i : ℕ) → get_or l.counts.items i 0 ≡ count_by (λ p. is_at i p.first) (take l.one-index l.placed);
  most : (i : ℕ) → get_or l.counts.items i 0 ≤ l.one-index;
}
