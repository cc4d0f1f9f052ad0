use Rattle.std.proofs.Common.{◌≤◌}
use Rattle.std.proofs.lemmas.List.Elements.{All-pop}
use Rattle.haya_selectors.specs.declared.selector.Selector.{size-Selector}
use Rattle.haya_selectors.proofs.debug.SelectorDebug.+fmt.Goals as goal

pub up-preserved : goal.up-preserved
up-preserved g t c = (All-pop (λ s. size-Selector s.now ≤ size-Selector c.args.self.now) c.up.above.items c.pop.new.self.items c.pop.result c.pop.ensures.items c.up.invariant).0
