use Rattle.haya_selectors.proofs.OneOutcome.{is_computed}
use Rattle.haya_selectors.proofs.laws.reading_is_computed.Goals as goal

pub returns : goal.returns
returns c = is_computed
