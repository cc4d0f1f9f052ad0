use Rattle.std.proofs.Common.{Ok, Err}
use Rattle.std.proofs.lemmas.Result.{err_from_is_err_and}
use Rattle.haya_selectors.proofs.Ends.{ends_at, taken_before}
use Rattle.haya_selectors.proofs.OneOutcome.{is_read, text_gives}
use Rattle.haya_selectors.proofs.selector.Selector.parse_prefix.Goals as goal

pub returns-in_err-selector-clause-grammar : goal.returns-in_err-selector-clause-grammar
returns-in_err-selector-clause-grammar c =
    let p = err_from_is_err_and c.from_residual.result c.from_residual.ensures.1 in
    rw (p.1, p.2) (text_gives _ _ c.expr.new.tokens (Err c.in_err-selector.field-0.0) c.new-tokens.ensures c.in_err-selector.ensures.value)

pub returns-in_err-selector-clause-computed : goal.returns-in_err-selector-clause-computed
returns-in_err-selector-clause-computed c =
    let p = err_from_is_err_and c.from_residual.result c.from_residual.ensures.1 in
    rw (p.1, p.2) (is_read _ (Err c.in_err-selector.field-0.0) (text_gives _ _ c.expr.new.tokens (Err c.in_err-selector.field-0.0) c.new-tokens.ensures c.in_err-selector.ensures.value))

pub end_before-end-requires : goal.end_before-end-requires
end_before-end-requires c = taken_before c.new-tokens.ensures c.in_ok-selector.ensures.value

pub returns-clause-grammar : goal.returns-clause-grammar
returns-clause-grammar c = text_gives _ _ _ (Ok _) c.new-tokens.ensures c.in_ok-selector.ensures.value

pub returns-clause-computed : goal.returns-clause-computed
returns-clause-computed c = is_read _ (Ok _) (text_gives _ _ _ (Ok _) c.new-tokens.ensures c.in_ok-selector.ensures.value)

pub returns-clause-end : goal.returns-clause-end
returns-clause-end c = ends_at c.new-tokens.ensures c.in_ok-selector.ensures.value c.end_before-end.ensures
