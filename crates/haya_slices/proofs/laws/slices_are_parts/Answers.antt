use Rattle.haya_slices.proofs.PartsOf.{parts_of_list}
use Rattle.haya_slices.proofs.laws.slices_are_parts.Goals as goal

pub returns : goal.returns
returns c = parts_of_list
