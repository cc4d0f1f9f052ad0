use Rattle.std.proofs.Common.{◌≡◌}
use Rattle.haya_selectors.specs.Syntax.{negations, syntax}
use Rattle.haya_selectors.proofs.parse.negated.Given as goal

abbrev pub invariant-wraps : goal.invariant-wraps
invariant-wraps l = negations l.left (syntax l.whole) ≡ negations l.fn.signs (syntax l.fn.inner)

abbrev pub decreases-wraps : goal.decreases-wraps
decreases-wraps l = l.left
