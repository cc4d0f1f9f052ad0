use Rattle.std.proofs.Common.{length}
use Rattle.haya_yaml.proofs.names.keys_of.Given as goal

abbrev pub decreases-tokens : goal.decreases-tokens
decreases-tokens l = length l.reader
