use Rattle.haya_line_slices.proofs.Entries.{parts-list}
use Rattle.haya_line_slices.proofs.laws.parts_are_entries.Goals as goal

pub returns : goal.returns
returns c = parts-list
