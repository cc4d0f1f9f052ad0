use Rattle.std.proofs.Common.{◌≡◌, ◌<◌, length}
use Rattle.std.specs.Prelude.{All}
use Rattle.haya_assignment.specs.Assignment.{rows}
use Rattle.haya_assignment.specs.Placed.{accepts}
use Rattle.haya_assignment.specs.Search.{AreAlike}
use Rattle.haya_assignment.proofs.alike.all_alike.Given as goal

abbrev pub invariant-members : goal.invariant-members
invariant-members l =
    record {
      as_many : length l.alike.items ≡ l.member;
      alike : AreAlike (accepts (rows l.table)) l.alike.items;
      firsts : All (λ u. u < l.member) l.firsts.items;
    }
