use Rattle.haya_asked.proofs.AskedLemmas.{all_asked}
use Rattle.haya_asked.proofs.laws.all_are_asked.Goals as goal

pub returns : goal.returns
returns c = λ questions hits nothing. all_asked questions hits nothing
