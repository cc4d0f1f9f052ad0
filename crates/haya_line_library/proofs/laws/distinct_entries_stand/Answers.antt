use Rattle.haya_line_library.proofs.Parts.{Describes-distinct}
use Rattle.haya_line_library.proofs.laws.distinct_entries_stand.Goals as goal

pub returns : goal.returns
returns c = Describes-distinct
