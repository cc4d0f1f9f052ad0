use Rattle.std.proofs.Common.{◌≡◌, map, take}
use Rattle.haya_bibtex_inherited.specs.Search.{rank_of}
use Rattle.haya_bibtex_inherited.proofs.order.ranks_of.Given as goal

abbrev pub invariant-places : goal.invariant-places
invariant-places l = l.ranks.items ≡ map rank_of (take l.place-index l.places)
