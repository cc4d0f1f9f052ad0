use Rattle.std.proofs.Common.{◌-◌, length}
use Rattle.haya_yaml.proofs.value.walk_to.Given as goal

abbrev pub decreases-bytes : goal.decreases-bytes
decreases-bytes l = length l.bytes - l.at.left
