use Rattle.std.proofs.Common.{rules}
use Rattle.haya_questions.proofs.QuoteLemmas.{step_plain, step_quote}
use Rattle.haya_questions.proofs.test_text.quoted.Goals as goal

pub returns-then-c-eq34 : goal.returns-then-c-eq34
returns-then-c-eq34 c = step_quote _ _ _ _ _ _ _ c.characters.invariant.1 c.if-escaped.false c.in-Some.ensures.first c.if-c-eq34.true c.closed.ensures

pub characters-preserved : goal.characters-preserved
characters-preserved c =
    (search rules, step_plain _ _ _ _ _ _ _ c.characters.invariant.1 c.if-escaped.false c.in-Some.ensures.first c.if-c-eq34.false c.if-c-eq92.false c.in_ok-push-2.ensures.bytes)
