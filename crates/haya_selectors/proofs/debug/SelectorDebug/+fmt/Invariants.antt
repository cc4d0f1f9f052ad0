use Rattle.std.proofs.Common.{vec_len}
use Rattle.haya_selectors.specs.declared.selector.Selector.{size-Selector}
use Rattle.haya_selectors.specs.Side.{AllNoDeeper}
use Rattle.haya_selectors.proofs.debug.SelectorDebug.+fmt.Given as goal

abbrev pub invariant-up : goal.invariant-up
invariant-up g l = AllNoDeeper (size-Selector l.self) l.above.items

abbrev pub decreases-up : goal.decreases-up
decreases-up g l = vec_len l.above
