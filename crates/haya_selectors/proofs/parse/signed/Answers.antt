use Rattle.std.proofs.lemmas.Result.{err_from_is_err_and}
use Rattle.haya_selectors.proofs.Parsing.{value_fails, value_negated}
use Rattle.haya_selectors.proofs.parse.signed.Goals as goal

pub returns-in_err-inner : goal.returns-in_err-inner
returns-in_err-inner c ts after b g =
    let p = err_from_is_err_and c.from_residual.result c.from_residual.ensures.1 in
    rw (p.1, p.2) (value_fails c.args.signs ts _ b (rw c.in_err-inner.was at g))

pub returns : goal.returns
returns c ts after b g = value_negated c.args.signs ts after _ c.negated.result b (rw c.in_ok-inner.was at g) c.negated.ensures.value c.negated.ensures.fault
