use Rattle.haya_selectors.proofs.OneCut.{one_cut}
use Rattle.haya_selectors.proofs.laws.one_cut.Goals as goal

pub returns : goal.returns
returns c = one_cut
