use Rattle.std.proofs.Common.{◌≡◌, map, take}
use Rattle.haya_selectors.proofs.tries.write_row.Given as goal

abbrev pub invariant-tries : goal.invariant-tries
invariant-tries l = l.row.items ≡ map (λ t. t.held) (take l.at l.tries)
