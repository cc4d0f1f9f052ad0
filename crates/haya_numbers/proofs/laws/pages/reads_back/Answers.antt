use Rattle.haya_numbers.proofs.ReadsBack.{pages_back}
use Rattle.haya_numbers.proofs.laws.pages.reads_back.Goals as goal

pub returns : goal.returns
returns c = pages_back
