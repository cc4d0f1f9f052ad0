use Rattle.std.proofs.Common.{◌-◌, ◌≤◌, length}
use Rattle.haya_yaml_slices.proofs.dividing.line_len.Given as goal

abbrev pub invariant-bytes : goal.invariant-bytes
invariant-bytes l = l.at ≤ length l.bytes

abbrev pub decreases-bytes : goal.decreases-bytes
decreases-bytes l = length l.bytes - l.at
