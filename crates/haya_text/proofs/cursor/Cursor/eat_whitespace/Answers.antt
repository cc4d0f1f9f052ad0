use Rattle.std.proofs.Common.{arith, ap, ◌∙◌}
use Rattle.std.specs.Str.{skip_leading_whitespace}
use Rattle.haya_text.proofs.Characters.{length_by_chars, chars-trim_start}
use Rattle.haya_text.proofs.cursor.Cursor.eat_whitespace.Goals as goal

pub go_to-requires : goal.go_to-requires
go_to-requires c = omega (arith, length_by_chars _ _ c.rest.utf8 c.rest.ensures, c.trim_start-left.ensures.value.4)

pub returns-clause-taken : goal.returns-clause-taken
returns-clause-taken c =
    c.go_to.ensures.rest ∙ chars-trim_start _ _ c.trim_start-left.utf8 c.trim_start-left.ensures.trim ∙ ap skip_leading_whitespace c.rest.ensures
