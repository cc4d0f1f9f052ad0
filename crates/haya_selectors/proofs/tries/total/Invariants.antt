use Rattle.std.proofs.Common.{◌≡◌, map, sum, take}
use Rattle.haya_selectors.proofs.tries.total.Given as goal

abbrev pub invariant-tries : goal.invariant-tries
invariant-tries l = l.total ≡ sum (take l.at (map (λ t. t.found) l.tries))
