use Rattle.std.proofs.lemmas.Result.{err_from_is_err_and}
use Rattle.haya_selectors.specs.Grammar.{no_list, with_names, in_factor, in_names}
use Rattle.haya_selectors.proofs.Parsing.{of_part}
use Rattle.haya_selectors.proofs.Syntaxes.{syntax-attr}
use Rattle.haya_selectors.proofs.parse.listed.Goals as goal

pub returns-in_err-inner-clause-value : goal.returns-in_err-inner-clause-value
returns-in_err-inner-clause-value c ts g =
    let p = err_from_is_err_and c.from_residual.result c.from_residual.ensures.1 in
    rw (p.1, p.2) (of_part (λ f. in_factor) _ (rw c.in_err-inner.was at g))

pub returns-then-not-eat_sign-clause-value : goal.returns-then-not-eat_sign-clause-value
returns-then-not-eat_sign-clause-value c ts g = rw c.if-not-eat_sign.ensures.1 (no_list (rw c.in_ok-inner.was at g) c.if-not-eat_sign.ensures.0)

pub returns-in_err-list-clause-value : goal.returns-in_err-list-clause-value
returns-in_err-list-clause-value c ts g =
    let p = err_from_is_err_and c.from_residual-in_err-list.result c.from_residual-in_err-list.ensures.1 in
    rw (p.1, p.2) (of_part (λ f. in_names (rw c.if-not-eat_sign.ensures at (rw c.in_ok-inner.was at g))) _ c.in_err-list.ensures.value)

pub returns-clause-value : goal.returns-clause-value
returns-clause-value c ts g =
    rw (syntax-attr, c.in_ok-new.ensures.ok) (with_names (rw c.if-not-eat_sign.ensures at (rw c.in_ok-inner.was at g)) c.in_ok-list.ensures.value)
