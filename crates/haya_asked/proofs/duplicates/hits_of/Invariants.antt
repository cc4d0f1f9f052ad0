use Rattle.std.proofs.Common.{◌≡◌, ◌++◌, map}
use Rattle.std.specs.Vec.Iter.{into_iter_items}
use Rattle.haya_asked.proofs.duplicates.hits_of.Given as goal

-- the hits so far and those of what is left are all
abbrev pub invariant-placed : goal.invariant-placed
invariant-placed l = l.hits.items ++ map (λ p. p.hit) (into_iter_items l.one-iterator) ≡ map (λ p. p.hit) l.fn.placed.items
