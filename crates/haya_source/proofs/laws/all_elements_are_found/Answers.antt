use Rattle.haya_source.proofs.Found.{all_found}
use Rattle.haya_source.proofs.laws.all_elements_are_found.Goals as goal

pub returns : goal.returns
returns c = all_found
