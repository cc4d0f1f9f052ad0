use Rattle.haya_command.proofs.Bindable.{none_more, one_can}
use Rattle.haya_command.proofs.bound.+can_bind.Goals as goal

pub some_can_bind-returns-then-can_bind : goal.some_can_bind-returns-then-can_bind
some_can_bind-returns-then-can_bind t c =
    one_can _ _ _ _ _ c.member-item.is c.members-test.true c.can_bind.ensures c.if-can_bind.true

pub some_can_bind-members-preserved : goal.some_can_bind-members-preserved
some_can_bind-members-preserved t c =
    none_more _ _ _ _ _ c.member-item.is c.members-test.true c.can_bind.ensures c.if-can_bind.false c.members.invariant
