use Rattle.std.proofs.Common.{◌≡◌, ◌≤◌, ◌+◌, ◌*◌, false, take}
use denote.Param.Weighed.{most}
use Rattle.haya_selectors.specs.declared.selector.Selector.{size-Selector}
use Rattle.hayagriva.specs.Syntax.{members_of, syntax}
use Rattle.haya_command.specs.Bound.{can_bind, some_can_bind}
use Rattle.haya_command.proofs.bound.+can_bind.Given as goal

-- the whole can bind the name where what is left can
abbrev pub invariant-can_bind-down : goal.invariant-can_bind-down
invariant-can_bind-down l =
    (can_bind l.name (syntax l.selector) ≡ can_bind l.name (syntax l.at))
    × (size-Selector l.at ≤ size-Selector l.selector)

abbrev pub decreases-can_bind-down : goal.decreases-can_bind-down
decreases-can_bind-down l = size-Selector l.at

-- no member so far can
abbrev pub invariant-some_can_bind-members : goal.invariant-some_can_bind-members
invariant-some_can_bind-members l = some_can_bind l.name (members_of (take l.member-index l.members)) ≡ false

abbrev pub decreases-can_bind : goal.decreases-can_bind
decreases-can_bind l = 2 * size-Selector l.selector.now

abbrev pub decreases-some_can_bind : goal.decreases-some_can_bind
decreases-some_can_bind l = 2 * most size-Selector l.members.now + 1
