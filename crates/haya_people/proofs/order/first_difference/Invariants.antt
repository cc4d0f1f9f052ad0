use Rattle.std.proofs.Common.{◌≡◌, drop}
use Rattle.std.specs.Prelude.{map}
use Rattle.haya_people.specs.Orders.{first_difference, pair_cmp}
use Rattle.haya_people.proofs.order.first_difference.Given as goal

abbrev pub invariant-loop-mine : goal.invariant-loop-mine
invariant-loop-mine l = first_difference (map pair_cmp (drop l.mine-index l.pairs)) ≡ first_difference (map pair_cmp l.pairs)
