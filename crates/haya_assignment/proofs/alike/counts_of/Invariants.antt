use Rattle.std.proofs.Common.{◌≡◌, length}
use Rattle.haya_assignment.proofs.alike.counts_of.Given as goal

abbrev pub invariant-members : goal.invariant-members
invariant-members l = length l.counts.items ≡ l.member
