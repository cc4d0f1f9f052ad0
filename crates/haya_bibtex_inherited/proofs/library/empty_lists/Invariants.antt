use Rattle.std.proofs.Common.{◌≤◌, ◌-◌, length, vec_len}
use Rattle.haya_bibtex_inherited.proofs.library.empty_lists.Given as goal

abbrev pub invariant-lists : goal.invariant-lists
invariant-lists l = length l.lists.items ≤ l.count

abbrev pub decreases-lists : goal.decreases-lists
decreases-lists l = l.count - vec_len l.lists
