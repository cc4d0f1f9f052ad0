use Rattle.std.proofs.Common.{◌-◌, ◌≤◌, length}
use Rattle.haya_yaml.proofs.names.least_second.Given as goal

abbrev pub invariant-keys : goal.invariant-keys
invariant-keys l = 1 ≤ l.index

abbrev pub decreases-keys : goal.decreases-keys
decreases-keys l = length l.keys - l.index
