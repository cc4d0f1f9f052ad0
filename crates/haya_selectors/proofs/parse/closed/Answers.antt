use Rattle.std.proofs.lemmas.Result.{err_from_is_err_and}
use Rattle.haya_selectors.specs.Grammar.{in_parens, parens, unbalanced}
use Rattle.haya_selectors.proofs.Parsing.{of_part}
use Rattle.haya_selectors.proofs.parse.closed.Goals as goal

pub returns-in_err-inner-clause-value : goal.returns-in_err-inner-clause-value
returns-in_err-inner-clause-value c ts g =
    let p = err_from_is_err_and c.from_residual.result c.from_residual.ensures.1 in
    rw (p.1, p.2) (of_part (λ f. in_parens) _ (rw c.in_err-inner.was at g))

pub returns-then-not-eat_sign-clause-value : goal.returns-then-not-eat_sign-clause-value
returns-then-not-eat_sign-clause-value c ts g = unbalanced (rw c.in_ok-inner.was at g) c.if-not-eat_sign.ensures.0

pub returns-clause-value : goal.returns-clause-value
returns-clause-value c ts g = parens (rw c.if-not-eat_sign.ensures at (rw c.in_ok-inner.was at g))
