use Rattle.std.proofs.Common.{◌≡◌, ◌+◌, ◌*◌, ◌∷◌, map, take, vec_len}
use denote.Param.Weighed.{most}
use Rattle.haya_selectors.specs.declared.selector.Selector.{size-Selector}
use Rattle.haya_selectors.specs.Side.{AllNoDeeper, wrapped}
use Rattle.haya_selectors.specs.Syntax.{syntax}
use Rattle.haya_selectors.proofs.+copies.Given as goal

abbrev pub decreases-selector::Selector::copy_over : goal.decreases-selector::Selector::copy_over
decreases-selector::Selector::copy_over l = 3 * size-Selector l.self.now + 1

abbrev pub decreases-selector::Selector::try_clone : goal.decreases-selector::Selector::try_clone
decreases-selector::Selector::try_clone l = 3 * size-Selector l.self.now + 2

abbrev pub decreases-try_clone::copies : goal.decreases-try_clone::copies
decreases-try_clone::copies l = 3 * most size-Selector l.selectors.now + 3

-- the copy stands for what is below the selectors that are left
abbrev pub invariant-selector::Selector::try_clone-up : goal.invariant-selector::Selector::try_clone-up
invariant-selector::Selector::try_clone-up l =
    (wrapped l.above.items (syntax l.copy) ≡ syntax l.self)
    × AllNoDeeper (size-Selector l.self) l.above.items

abbrev pub decreases-selector::Selector::try_clone-up : goal.decreases-selector::Selector::try_clone-up
decreases-selector::Selector::try_clone-up l = vec_len l.above

-- the copies so far are those of the selectors so far
abbrev pub invariant-try_clone::copies-rest : goal.invariant-try_clone::copies-rest
invariant-try_clone::copies-rest l = map syntax l.copies.items ≡ syntax l.fn.first ∷ map syntax (take l.selector-index l.rest)
