use Rattle.std.proofs.Common.{arith, ap, length}
use Rattle.std.proofs.lemmas.List.{length-append}
use Rattle.haya_text.proofs.Characters.{length_by_chars}
use Rattle.haya_text.proofs.cursor.Cursor.eat_while.Goals as goal

pub go_to-requires : goal.go_to-requires
go_to-requires g c = omega (arith, length_by_chars _ _ c.rest.utf8 c.rest.ensures, ap length c.split_while.ensures.parts, length-append c.split_while.result.0.now c.split_while.result.1.now)
