use Rattle.std.proofs.Common.{length}
use Rattle.haya_json.proofs.Positions.{IsAt}
use Rattle.haya_json.proofs.position.position_behind.Given as goal

abbrev pub invariant-chars : goal.invariant-chars
invariant-chars l = IsAt l.front l.cursor l.position

abbrev pub decreases-chars : goal.decreases-chars
decreases-chars l = length l.cursor.rest
