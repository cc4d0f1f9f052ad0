use Rattle.std.proofs.Common.{◌∙◌, arith}
use Rattle.hayagriva.proofs.Queries.{all_hits, most_so_far, no_hits, one_hit}
use Rattle.hayagriva.proofs.library.Library.hits.Goals as goal

pub hits-init : goal.hits-init
hits-init c = (c.in_ok-prepared.ensures, rw (c.new-hits.ensures.items, c.iter-rest.ensures.entries) (no_hits _))

pub returns-in_err-hit-clause-most : goal.returns-in_err-hit-clause-most
returns-in_err-hit-clause-most c = most_so_far _ _ _ _ c.hits.invariant.1 (rw c.hits.invariant.0 at c.in_err-hit.ensures.ticks)

pub hits-preserved : goal.hits-preserved
hits-preserved c =
    let same = c.hits.invariant.0 in
    let given = rw c.in-Some.is at c.in_ok-hit.ensures in
    let still = given.asks.selector ∙ same in
    (still, rw c.in_ok-push.ensures.items (one_hit _ _ _ _ _ c.hits.invariant.1 (rw (same, still) at given)))

pub returns-in_err-push-clause-most : goal.returns-in_err-push-clause-most
returns-in_err-push-clause-most c =
    let same = c.hits.invariant.0 in
    let given = rw c.in-Some.is at c.in_ok-hit.ensures in
    most_so_far _ _ _ c.next_hit.new.steps (one_hit _ _ _ _ _ c.hits.invariant.1 (rw (same, given.asks.selector ∙ same) at given)) (omega arith)

pub returns-clause-most : goal.returns-clause-most
returns-clause-most c =
    let none = rw (c.in_default.is, c.hits.invariant.0) at c.in_ok-hit.ensures in
    most_so_far _ _ _ c.next_hit.new.steps c.hits.invariant.1 (omega (arith, none.asks.ticks))

pub returns-clause-hits : goal.returns-clause-hits
returns-clause-hits c =
    let same = c.hits.invariant.0 in
    let none = rw c.in_default.is at c.in_ok-hit.ensures in
    (all_hits _ _ _ _ c.hits.invariant.1 (rw (same, none.asks.selector ∙ same) at none)).0

pub returns-clause-ticks : goal.returns-clause-ticks
returns-clause-ticks c =
    let same = c.hits.invariant.0 in
    let none = rw c.in_default.is at c.in_ok-hit.ensures in
    (all_hits _ _ _ _ c.hits.invariant.1 (rw (same, none.asks.selector ∙ same) at none)).1.ticks
