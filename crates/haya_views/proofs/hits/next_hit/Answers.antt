use Rattle.std.proofs.Common.{◌<◌, length, subst, ◌∙◌, arith}
use Rattle.haya_selectors.specs.Applied.{AreBindings}
use Rattle.haya_views.specs.Hits.{IsFoundAt}
use Rattle.haya_views.proofs.NextHits.{found, missed}
use Rattle.haya_views.proofs.hits.next_hit.Goals as goal

pub returns-in-Some : goal.returns-in-Some
returns-in-Some c =
    let s = c.args.selector.now in
    let library = c.args.library.now in
    let n = c.missed.place in
    let one = found s library n (λ x. AreBindings s x c.in-Some.bindings) (subst (IsFoundAt s library n) c.in-Some.is c.in_ok-bindings.ensures) in
    record { entry = one.0; at = one.1; first = c.missed.invariant ∙ one.2; bound = one.3 }

pub missed-preserved : goal.missed-preserved
missed-preserved c =
    let s = c.args.selector.now in
    let library = c.args.library.now in
    let n = c.missed.place in
    let within : n < length library = omega (arith, c.missed-test.true, c.len-place-end.ensures) in
    c.missed.invariant ∙ missed s library n within (subst (IsFoundAt s library n) c.in_default.is c.in_ok-bindings.ensures)
