use Rattle.haya_selectors.proofs.OneOutcome.{is_read, text_gives}
use Rattle.haya_selectors.proofs.selector.Selector.parse.Goals as goal

pub returns-clause-grammar : goal.returns-clause-grammar
returns-clause-grammar c = text_gives _ _ _ _ c.new-tokens.ensures c.expr.ensures.value

pub returns-clause-computed : goal.returns-clause-computed
returns-clause-computed c = is_read _ _ (text_gives _ _ _ _ c.new-tokens.ensures c.expr.ensures.value)
