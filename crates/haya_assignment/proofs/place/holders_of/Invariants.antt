use Rattle.haya_assignment.proofs.Holding.{AreHoldersUpTo}
use Rattle.haya_assignment.proofs.place.holders_of.Given as goal

abbrev pub invariant-members : goal.invariant-members
invariant-members l = AreHoldersUpTo l.member l.other l.parents l.positions l.holders.items
