use Rattle.std.proofs.Common.{length}
use Rattle.haya_json.proofs.position.place_of_twice.Given as goal

abbrev pub decreases-tokens : goal.decreases-tokens
decreases-tokens l = length l.reader
