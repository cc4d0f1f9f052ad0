use Rattle.std.proofs.Common.{◌≡◌, ◌≤◌, ◌+◌, ◌*◌, false, take}
use denote.Param.Weighed.{most}
use Rattle.haya_selectors.specs.declared.selector.Selector.{size-Selector}
use Rattle.hayagriva.specs.Holds.{some_holds}
use Rattle.hayagriva.specs.Syntax.{members_of, syntax}
use Rattle.hayagriva.specs.Tree.{Tree}
use Rattle.haya_command.proofs.Settled.{AlwaysAnswers}
use Rattle.haya_command.proofs.hints.+settled.Given as goal

-- the whole has the answer where what is left has the one that is wanted
abbrev pub invariant-is_settled-down : goal.invariant-is_settled-down
invariant-is_settled-down l =
    (AlwaysAnswers (syntax l.at) l.wanted → AlwaysAnswers (syntax l.selector) l.answer)
    × (size-Selector l.at ≤ size-Selector l.selector)

abbrev pub decreases-is_settled-down : goal.decreases-is_settled-down
decreases-is_settled-down l = size-Selector l.at

-- no member so far holds anywhere
abbrev pub invariant-are_settled-members : goal.invariant-are_settled-members
invariant-are_settled-members l =
    l.answer ≡ false → (x : Tree) → some_holds (members_of (take l.member-index l.members)) x ≡ false

abbrev pub decreases-is_settled : goal.decreases-is_settled
decreases-is_settled l = 2 * size-Selector l.selector.now

abbrev pub decreases-are_settled : goal.decreases-are_settled
decreases-are_settled l = 2 * most size-Selector l.members.now + 1
