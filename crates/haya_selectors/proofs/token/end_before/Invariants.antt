use Rattle.std.proofs.Common.{◌≡◌, ◌+◌, length, None}
use Rattle.std.specs.Str.{chars}
use Rattle.haya_text.specs.Cursor.{text_len}
use Rattle.haya_selectors.specs.Cut.{cut}
use Rattle.haya_selectors.proofs.Taken.{SomeTaken}
use Rattle.haya_selectors.proofs.token.end_before.Given as goal

-- `ahead` is behind as many tokens as were counted
abbrev pub invariant-counted : goal.invariant-counted
invariant-counted l = length l.ahead + length l.left ≡ length (cut None (chars l.text)) + length l.counted

abbrev pub decreases-counted : goal.decreases-counted
decreases-counted l = length l.counted

abbrev pub invariant-taken : goal.invariant-taken
invariant-taken l =
    SomeTaken (chars l.text) l.cursor.rest
    × (length (cut None l.cursor.rest) ≡ length l.ahead + length l.left)
    × (text_len l.cursor ≡ length l.text)

abbrev pub decreases-taken : goal.decreases-taken
decreases-taken l = length l.ahead
