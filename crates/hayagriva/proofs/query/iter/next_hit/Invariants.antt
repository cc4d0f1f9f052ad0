use Rattle.std.proofs.Common.{◌≡◌}
use Rattle.hayagriva.specs.QueryState.{query_state}
use Rattle.hayagriva.proofs.Queries.{Misses}
use Rattle.hayagriva.proofs.query.iter.next_hit.Given as goal

-- none of the entries so far is a hit
abbrev pub invariant-missed : goal.invariant-missed
invariant-missed l =
    let s = l.fn.selector in
    (l.selector ≡ s) × Misses (query_state s l.fn.rest l.fn.steps) (query_state s l.rest l.steps)
