use Rattle.std.proofs.Common.{ap}
use Rattle.haya_entry.proofs.Equal.{entries-tell}
use Rattle.haya_selectors.specs.Holds.{holds}
use Rattle.haya_selectors.proofs.laws.equal_entries_are_picked_alike.Goals as goal

pub returns : goal.returns
returns c = λ a b e s. ap (holds s) ((entries-tell a b).0 e)
