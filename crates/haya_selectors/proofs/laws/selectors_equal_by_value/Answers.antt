use Rattle.haya_selectors.specs.EqualityLaws.{syntax_eq-Decides}
use Rattle.haya_selectors.specs.Syntax.{syntax}
use Rattle.haya_selectors.proofs.laws.selectors_equal_by_value.Goals as goal

pub returns : goal.returns
returns c a b = syntax_eq-Decides (syntax a) (syntax b)
