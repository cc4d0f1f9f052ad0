use Rattle.std.proofs.Common.{◌≡◌, ◌≤◌}
use Rattle.haya_selectors.specs.declared.selector.Selector.{size-Selector}
use Rattle.haya_selectors.specs.Side.{AllNoDeeper, NoEnds, wrapped}
use Rattle.haya_selectors.specs.Syntax.{syntax}
use Rattle.haya_selectors.proofs.selector.Selector.first_side.Given as goal

abbrev pub invariant-down : goal.invariant-down
invariant-down l =
    (wrapped l.above.items (syntax l.at) ≡ syntax l.self)
    × (size-Selector l.at ≤ size-Selector l.self)
    × AllNoDeeper (size-Selector l.self) l.above.items
    × NoEnds l.above.items
