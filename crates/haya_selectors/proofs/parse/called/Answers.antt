use Rattle.std.proofs.lemmas.Result.{err_from_is_err_and}
use Rattle.haya_selectors.specs.Grammar.{in_named, named}
use Rattle.haya_selectors.proofs.Parsing.{of_part}
use Rattle.haya_selectors.proofs.Syntaxes.{syntax-binding}
use Rattle.haya_selectors.proofs.parse.called.Goals as goal

pub returns-in_err-inner : goal.returns-in_err-inner
returns-in_err-inner c ts after g =
    let p = err_from_is_err_and c.from_residual.result c.from_residual.ensures.1 in
    rw (p.1, p.2) (of_part (λ f. in_named) _ (rw c.in_err-inner.was at g))

pub returns : goal.returns
returns c ts after g = rw (syntax-binding, c.in_ok-name.ensures.ok, c.in_ok-new.ensures.ok) (named (rw c.in_ok-inner.was at g))
