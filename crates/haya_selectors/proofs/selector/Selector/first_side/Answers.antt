use Rattle.std.proofs.Common.{◌≡◌, ◌≤◌, ◌∙◌, ap, arith, false}
use Rattle.std.proofs.lemmas.List.Elements.{All-push}
use Rattle.haya_selectors.specs.declared.selector.Selector.{size-Selector}
use Rattle.haya_selectors.specs.Side.{is_end, wrapped}
use Rattle.haya_selectors.specs.Syntax.{syntax}
use Rattle.haya_selectors.proofs.Sides.{wrapped_push}
use Rattle.haya_selectors.proofs.selector.Selector.first_side.Goals as goal

pub down-preserved : goal.down-preserved
down-preserved c =
    let above = c.down.above.items in
    let at = c.down.at in
    let first = c.in-Some.first in
    let e = c.in_ok-push.ensures.items in (
      ap (λ ss. wrapped ss (syntax first.now)) e ∙ wrapped_push above at (syntax first.now)
          ∙ ap (wrapped above) c.in-Some.ensures.syntax ∙ c.down.invariant.0,
      omega (arith, c.down.invariant.1, c.in-Some.ensures.deep),
      rw e (All-push (λ s. size-Selector s.now ≤ size-Selector c.args.self.now) above at c.down.invariant.2 c.down.invariant.1),
      rw e (All-push (λ s. is_end (syntax s.now) ≡ false) above at c.down.invariant.3 c.in-Some.ensures.has),
    )
