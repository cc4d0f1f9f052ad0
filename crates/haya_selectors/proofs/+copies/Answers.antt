use Rattle.std.proofs.Common.{◌≡◌, ◌≤◌, ◌∙◌, ◌++◌, ◌∷◌, [], ap, rules, sym}
use Rattle.std.proofs.lemmas.List.Elements.{All-pop}
use Rattle.haya_selectors.specs.declared.selector.Selector.{size-Selector}
use Rattle.haya_selectors.specs.Side.{wrapped}
use Rattle.haya_selectors.specs.Syntax.{syntax}
use Rattle.haya_selectors.proofs.Sides.{wrapped_push}
use Rattle.haya_selectors.proofs.+copies.Goals as goal

pub selector::Selector::try_clone-up-preserved : goal.selector::Selector::try_clone-up-preserved
selector::Selector::try_clone-up-preserved t c =
    let left = c.pop.new.self.items in
    let selector = c.in-Some.selector in
    let e : c.up.above.items ≡ left ++ selector ∷ [] = search rules in (
      ap (wrapped left) c.in_ok-copy.ensures ∙ sym (wrapped_push left selector (syntax c.up.copy))
          ∙ ap (λ ss. wrapped ss (syntax c.up.copy)) (sym e) ∙ c.up.invariant.0,
      (All-pop (λ s. size-Selector s.now ≤ size-Selector c.args.self.now) c.up.above.items left c.pop.result c.pop.ensures.items c.up.invariant.1).0,
    )
