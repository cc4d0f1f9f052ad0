use Rattle.std.proofs.Common.{◌≡◌, ◌++◌, map}
use Rattle.std.specs.Vec.Iter.{into_iter_items}
use Rattle.haya_questions.proofs.sorting.hits_of.Given as goal

-- the hits so far and those of what is left are all
abbrev pub invariant-kept : goal.invariant-kept
invariant-kept l = l.hits.items ++ map (λ k. k.value.hit) (into_iter_items l.one-iterator) ≡ map (λ k. k.value.hit) l.fn.kept.items
