use Rattle.haya_csl.proofs.DatesReadOrTold.{date_part_read_or_told}
use Rattle.haya_csl.proofs.laws.date_parts_are_read_or_told.Goals as goal

pub returns : goal.returns
returns c = date_part_read_or_told
