use Rattle.haya_selectors.proofs.ErrorsEqual.{errors-tell}
use Rattle.haya_selectors.proofs.laws.selector_errors_equal_by_value.Goals as goal

pub returns : goal.returns
returns c = errors-tell
