use Rattle.std.proofs.Common.{length}
use Rattle.haya_yaml_library.proofs.steps.key_number.Given as goal

abbrev pub decreases-tokens : goal.decreases-tokens
decreases-tokens l = length l.reader
