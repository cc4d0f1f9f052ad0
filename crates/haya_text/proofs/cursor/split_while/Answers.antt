use Rattle.haya_text.proofs.Characters.{accepted_none, accepted_more, accepted_boundary, chars-parts}
use Rattle.haya_text.proofs.cursor.split_while.Goals as goal

pub accepted-init : goal.accepted-init
accepted-init g c = accepted_none _ _ c.utf8.text

pub accepted-preserved : goal.accepted-preserved
accepted-preserved g c = accepted_more _ _ _ _ c.utf8.text c.accepted.invariant c.in-Some.ensures

pub split_at-requires : goal.split_at-requires
split_at-requires g c = accepted_boundary c.accepted.invariant

pub returns-clause-chars : goal.returns-clause-chars
returns-clause-chars g c =
    rw (c.split_at.ensures.front, c.split_at.ensures.back) (chars-parts _ _ c.utf8.text (accepted_boundary c.accepted.invariant))
