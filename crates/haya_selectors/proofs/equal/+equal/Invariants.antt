use Rattle.std.proofs.Common.{◌≡◌, ◌≤◌, ◌+◌, ◌*◌, drop}
use denote.Param.Weighed.{most}
use Rattle.haya_selectors.specs.declared.selector.Selector.{size-Selector}
use Rattle.haya_selectors.specs.Equality.{selector_eq, syntaxes_eq}
use Rattle.haya_selectors.specs.Syntax.{members_of}
use Rattle.haya_selectors.proofs.equal.+equal.Given as goal

-- the two are equal where what is left of them is
abbrev pub invariant-SelectorPartialEq::eq-down : goal.invariant-SelectorPartialEq::eq-down
invariant-SelectorPartialEq::eq-down l =
    (selector_eq l.left l.right ≡ selector_eq l.self l.other) × (size-Selector l.left ≤ size-Selector l.self)

abbrev pub decreases-SelectorPartialEq::eq-down : goal.decreases-SelectorPartialEq::eq-down
decreases-SelectorPartialEq::eq-down l = size-Selector l.left

abbrev pub invariant-all_equal-members : goal.invariant-all_equal-members
invariant-all_equal-members l =
    syntaxes_eq (members_of (drop l.i l.left)) (members_of (drop l.i l.right))
    ≡ syntaxes_eq (members_of l.left) (members_of l.right)

abbrev pub decreases-next_pair : goal.decreases-next_pair
decreases-next_pair l = 4 * size-Selector l.left.now

abbrev pub decreases-SelectorPartialEq::eq : goal.decreases-SelectorPartialEq::eq
decreases-SelectorPartialEq::eq l = 4 * size-Selector l.self.now + 1

abbrev pub decreases-all_equal : goal.decreases-all_equal
decreases-all_equal l = 4 * most size-Selector l.left.now + 2

abbrev pub decreases-first_pair : goal.decreases-first_pair
decreases-first_pair l = 4 * most size-Selector l.left.now + 3
