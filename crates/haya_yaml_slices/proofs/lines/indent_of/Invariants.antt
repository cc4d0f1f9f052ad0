use Rattle.std.proofs.Common.{◌-◌, ◌≤◌, length}
use Rattle.haya_yaml_slices.proofs.lines.indent_of.Given as goal

abbrev pub invariant-spaces : goal.invariant-spaces
invariant-spaces l = l.count ≤ length l.bytes

abbrev pub decreases-spaces : goal.decreases-spaces
decreases-spaces l = length l.bytes - l.count
