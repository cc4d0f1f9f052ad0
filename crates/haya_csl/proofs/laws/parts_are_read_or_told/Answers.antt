use Rattle.haya_csl.proofs.NamesReadOrTold.{part_read_or_told}
use Rattle.haya_csl.proofs.laws.parts_are_read_or_told.Goals as goal

pub returns : goal.returns
returns c = part_read_or_told
