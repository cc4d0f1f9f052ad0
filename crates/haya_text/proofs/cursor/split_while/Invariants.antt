use Rattle.std.proofs.Common.{length, true}
use Rattle.std.specs.Str.{chars}
use Rattle.haya_text.proofs.Characters.{Accepted}
use Rattle.haya_text.proofs.cursor.split_while.Given as goal

abbrev pub invariant-accepted : goal.invariant-accepted
invariant-accepted g l = Accepted (λ c. goal.P-post g l.accepts c true) l.text l.left

abbrev pub decreases-accepted : goal.decreases-accepted
decreases-accepted g l = length (chars l.left)
