use Rattle.haya_entry.proofs.Equal.{entries-tell}
use Rattle.haya_entry.proofs.laws.entries_equal_by_value.Goals as goal

pub returns : goal.returns
returns c = entries-tell
