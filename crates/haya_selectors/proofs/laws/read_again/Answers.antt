use Rattle.haya_selectors.proofs.Again.{read_again}
use Rattle.haya_selectors.proofs.laws.read_again.Goals as goal

pub returns : goal.returns
returns c = read_again
