use Rattle.std.proofs.Common.{ap}
use Rattle.haya_entry.specs.Names.{has_name}
use Rattle.haya_entry.proofs.Equal.{entries-tell}
use Rattle.haya_entry.proofs.laws.equal_entries_have_alike.Goals as goal

pub returns : goal.returns
returns c a b equal name = ap (λ t. has_name t name) ((entries-tell a b).0 equal)
