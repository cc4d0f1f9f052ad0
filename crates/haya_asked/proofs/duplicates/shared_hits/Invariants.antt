use Rattle.std.proofs.Common.{◌≡◌, ◌++◌, filter}
use Rattle.std.specs.Vec.Iter.{into_iter_items}
use Rattle.haya_asked.specs.Placed.{is_counted}
use Rattle.haya_asked.proofs.duplicates.shared_hits.Given as goal

-- those so far and those of what is left are all
abbrev pub invariant-placed : goal.invariant-placed
invariant-placed l =
    l.shared.items ++ filter (λ p. is_counted l.counts p.first) (into_iter_items l.one-iterator)
    ≡ filter (λ p. is_counted l.counts p.first) l.fn.placed.items
