use Rattle.std.proofs.Common.{◌≤◌, length, vec_len}
use Rattle.haya_bibtex_inherited.proofs.Cutting.{IsCutting}
use Rattle.haya_bibtex_inherited.proofs.search.join.Given as goal

abbrev pub invariant-starts : goal.invariant-starts
invariant-starts l = record {
  cutting : IsCutting l.initial.starts.items l.at l.starts.items;
  shorter : length l.starts.items ≤ length l.initial.starts.items;
}

abbrev pub decreases-starts : goal.decreases-starts
decreases-starts l = vec_len l.starts
