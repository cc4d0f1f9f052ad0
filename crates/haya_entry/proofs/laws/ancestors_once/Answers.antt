use Rattle.haya_entry.proofs.LevelsApart.{ancestors_once}
use Rattle.haya_entry.proofs.laws.ancestors_once.Goals as goal

pub returns : goal.returns
returns c = ancestors_once
