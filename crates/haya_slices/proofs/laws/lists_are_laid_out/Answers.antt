use Rattle.haya_slices.proofs.Same.{list_laid_out}
use Rattle.haya_slices.proofs.laws.lists_are_laid_out.Goals as goal

pub returns : goal.returns
returns c = list_laid_out
