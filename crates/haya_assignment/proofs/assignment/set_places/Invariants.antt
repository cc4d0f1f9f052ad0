use Rattle.std.proofs.Common.{◌≡◌, false, get_or}
use Rattle.std.specs.Prelude.{filter}
use Rattle.std.specs.List.{range_with_len}
use Rattle.haya_assignment.proofs.assignment.set_places.Given as goal

abbrev pub invariant-flags : goal.invariant-flags
invariant-flags l = l.places.items ≡ filter (λ i. get_or l.flags i false) (range_with_len 0 l.place)
