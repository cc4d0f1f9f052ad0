use Rattle.haya_csl.proofs.Refusals.{library_refused}
use Rattle.haya_csl.proofs.laws.refusals_are_few.Goals as goal

pub returns : goal.returns
returns c = library_refused
