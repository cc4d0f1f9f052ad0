use Rattle.std.proofs.Common.{length}
use Rattle.haya_yaml_slices.proofs.dividing.column_of.Given as goal

abbrev pub decreases-lines : goal.decreases-lines
decreases-lines l = length l.rest
