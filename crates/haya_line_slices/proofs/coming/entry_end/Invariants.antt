use Rattle.std.proofs.Common.{◌-◌, ◌≤◌, length}
use Rattle.haya_line_slices.specs.Coming.{NeverBefore}
use Rattle.haya_line_slices.proofs.coming.entry_end.Given as goal

abbrev pub invariant-bytes : goal.invariant-bytes
invariant-bytes l = record { within : l.at ≤ length l.held; never : NeverBefore l.held l.at }

abbrev pub decreases-bytes : goal.decreases-bytes
decreases-bytes l = length l.held - l.at
