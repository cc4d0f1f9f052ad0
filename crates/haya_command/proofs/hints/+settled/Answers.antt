use Rattle.haya_command.proofs.Settled.{settled_by, none_more, none_found, alt_answers}
use Rattle.haya_command.proofs.hints.+settled.Goals as goal

pub are_settled-returns-then-is_settled-answer : goal.are_settled-returns-then-is_settled-answer
are_settled-returns-then-is_settled-answer t c =
    settled_by _ _ _ _ _ c.member-item.is c.members-test.true c.is_settled.ensures c.if-is_settled-answer.true

pub are_settled-members-preserved : goal.are_settled-members-preserved
are_settled-members-preserved t c =
    none_more _ _ _ _ _ c.member-item.is c.members-test.true c.is_settled.ensures c.if-is_settled-answer.false c.members.invariant

pub are_settled-returns : goal.are_settled-returns
are_settled-returns t c = none_found _ _ _ c.members-test.false c.members.auto.member-index-end c.members.invariant

pub is_settled-returns-in-Alt : goal.is_settled-returns-in-Alt
is_settled-returns-in-Alt t c some =
    c.down.invariant.0 (alt_answers _ _ _ _ c.in-Alt.is c.deref.ensures.value (c.are_settled.ensures some))
