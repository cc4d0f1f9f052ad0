use Rattle.std.proofs.Common.{arith}
use Rattle.haya_text.proofs.Characters.{length-chars}
use Rattle.haya_text.proofs.cursor.Cursor.new.Goals as goal

pub invariant_of-result : goal.invariant_of-result
invariant_of-result c = omega (arith, length-chars c.args.text.now c.utf8.text)
