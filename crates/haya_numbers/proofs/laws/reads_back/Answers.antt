use Rattle.haya_numbers.proofs.Backs.{numeric-back}
use Rattle.haya_numbers.proofs.laws.reads_back.Goals as goal

pub returns : goal.returns
returns c = numeric-back
