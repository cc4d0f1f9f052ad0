use Rattle.std.proofs.Common.{◌-◌, ◌≤◌, length}
use Rattle.haya_yaml_slices.specs.Breaks.{IsBreak}
use Rattle.haya_yaml_slices.proofs.dividing.start_from.Given as goal

abbrev pub invariant-lines : goal.invariant-lines
invariant-lines l =
    (l.from ≤ l.start) × (l.start ≤ l.at) × (l.at ≤ length l.bytes) × IsBreak l.bytes l.start × IsBreak l.bytes l.at

abbrev pub decreases-lines : goal.decreases-lines
decreases-lines l = length l.bytes - l.at
