use Rattle.haya_selectors.proofs.OneOutcome.{one_reading}
use Rattle.haya_selectors.proofs.laws.one_reading.Goals as goal

pub returns : goal.returns
returns c = one_reading
