use Rattle.std.proofs.Common.{◌≤◌, length}
use Rattle.haya_yaml.proofs.value.settle_keys.Given as goal

abbrev pub invariant-keys : goal.invariant-keys
invariant-keys l = l.index ≤ length l.keys.items

abbrev pub decreases-keys : goal.decreases-keys
decreases-keys l = l.index
