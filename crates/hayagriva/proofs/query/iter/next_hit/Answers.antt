use Rattle.std.proofs.Common.{◌≡◌, ◌∷◌, ◌∙◌, Err, Ok, Option, Result, refl, rules, true}
use Rattle.std.specs.Prelude.{is_err}
use Rattle.haya_entry.specs.Tree.{view}
use Rattle.hayagriva.specs.declared.query.Hit.{Hit}
use Rattle.hayagriva.specs.QueryIter.{SearchGives, Stops}
use Rattle.hayagriva.specs.QueryState.{QueryState, query_state}
use Rattle.hayagriva.proofs.Queries.{Misses, no_miss, one_miss, then_hit, then_stops}
use Rattle.hayagriva.proofs.query.iter.next_hit.Goals as goal

pub missed-init : goal.missed-init
missed-init c = (refl, no_miss (query_state c.args.selector.now c.args.rest.now c.args.steps.now))

pub returns-in-Some-2 : goal.returns-in-Some-2
returns-in-Some-2 c =
    let s = c.args.selector.now in
    let x = view c.in-Some.entry.now in
    let same : c.missed.selector ≡ s = c.missed.invariant.0 in
    let left : c.missed.rest ≡ x ∷ c.next.new.self = c.in-Some.ensures.steps in
    let so_far : Misses (query_state s c.args.rest.now c.args.steps.now) (query_state s (x ∷ c.next.new.self) c.missed.steps) = rw left at c.missed.invariant.1 in
    let (holding, bindings) = rw (c.in-Some-2.is, same) at c.in_ok-bindings.ensures.answer in
    rw (c.in_ok-bindings.ensures.selector, same)
    (then_hit s x c.next.new.self c.args.rest.now c.args.steps.now c.missed.steps _ _ so_far holding (record { entry = refl; bindings = bindings }) (rw same at c.in_ok-bindings.ensures.ticks))

pub missed-preserved : goal.missed-preserved
missed-preserved c =
    let s = c.args.selector.now in
    let x = view c.in-Some.entry.now in
    let same : c.missed.selector ≡ s = c.missed.invariant.0 in
    let left : c.missed.rest ≡ x ∷ c.next.new.self = c.in-Some.ensures.steps in
    let so_far : Misses (query_state s c.args.rest.now c.args.steps.now) (query_state s (x ∷ c.next.new.self) c.missed.steps) = rw left at c.missed.invariant.1 in (
      c.in_ok-bindings.ensures.selector ∙ same,
      one_miss s x c.next.new.self c.args.rest.now c.args.steps.now c.missed.steps _ so_far (rw (c.in_default-2.is, same) at c.in_ok-bindings.ensures.answer) (rw same at c.in_ok-bindings.ensures.ticks),
    )

stops_at_err : {E : Type 0} (q r : QueryState) (result : Result (Option Hit) E) → is_err result ≡ true → Stops q r → SearchGives q result r
stops_at_err q r (Ok o) e h = absurd (cc)
stops_at_err q r (Err x) e h = h

pub returns-in_err-bindings : goal.returns-in_err-bindings
returns-in_err-bindings c =
    let s = c.args.selector.now in
    let x = view c.in-Some.entry.now in
    let same : c.missed.selector ≡ s = c.missed.invariant.0 in
    let left : c.missed.rest ≡ x ∷ c.next.new.self = c.in-Some.ensures.steps in
    let so_far : Misses (query_state s c.args.rest.now c.args.steps.now) (query_state s (x ∷ c.next.new.self) c.missed.steps) = rw left at c.missed.invariant.1 in
    rw (c.in_err-bindings.ensures.selector, same)
    (stops_at_err _ _ c.from_residual.result (search rules)
    (then_stops s x c.next.new.self c.args.rest.now c.args.steps.now c.missed.steps _ so_far (rw same at c.in_err-bindings.ensures.fewer)))
