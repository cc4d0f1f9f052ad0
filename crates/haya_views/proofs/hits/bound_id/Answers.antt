use Rattle.std.proofs.Common.{◌≡◌, ◌≢◌, ℕ, Some, ap, sym, subst, ◌∙◌}
use Rattle.std.specs.Option.{MatchOption}
use Rattle.std.specs.Prelude.{slice_get, unwrap_or}
use Rattle.haya_entry.specs.Tree.{view}
use Rattle.haya_selectors.specs.Applied.{entry_value}
use Rattle.haya_selectors.specs.Binds.{bound_to}
use Rattle.haya_views.specs.InOrder.{in_order}
use Rattle.haya_views.proofs.Reaches.{bound_reaches}
use Rattle.haya_views.proofs.hits.bound_id.Goals as goal

pub returns-in-None : goal.returns-in-None
returns-in-None c = λ s x at bindings.
    let name = c.args.name.now in
    let u = view c.in-Some.bound.now.now in
    let is : Some u ≡ bound_to s x name = ap entry_value c.in-Some.ensures.value ∙ bindings.entries name in
    let same : view c.in-Some-nth.entry.now ≡ x = ap (λ o. unwrap_or o x) (c.in-Some-nth.ensures ∙ at) in
    let none : (k : ℕ) → slice_get (in_order (view c.in-Some-nth.entry.now)) k ≢ Some u =
    subst (λ o. MatchOption o ((k : ℕ) → slice_get (in_order (view c.in-Some-nth.entry.now)) k ≢ Some u) (λ step. slice_get (in_order (view c.in-Some-nth.entry.now)) step ≡ Some u)) c.in-None.is c.in_ok-step.ensures in
    let there = bound_reaches s x u name (sym is) in
    absurd (none there.0 (subst (λ y. slice_get (in_order y) there.0 ≡ Some u) (sym same) there.1))
