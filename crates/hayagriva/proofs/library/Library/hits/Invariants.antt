use Rattle.std.proofs.Common.{◌≡◌, length}
use Rattle.haya_selectors.specs.Syntax.{syntax}
use Rattle.hayagriva.specs.QueryState.{query_state}
use Rattle.hayagriva.proofs.Queries.{HitsSoFar}
use Rattle.hayagriva.proofs.library.Library.hits.Given as goal

abbrev pub invariant-hits : goal.invariant-hits
invariant-hits l =
    let s = syntax l.selector in
    (l.prepared ≡ s) × HitsSoFar (query_state s l.self l.fn.steps) l.hits.items (query_state s l.rest l.steps)

abbrev pub decreases-hits : goal.decreases-hits
decreases-hits l = length l.rest
