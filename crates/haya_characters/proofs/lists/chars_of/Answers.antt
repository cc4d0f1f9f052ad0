use Rattle.std.proofs.Common.{◌≡◌}
use Rattle.std.specs.Str.{chars}
use Rattle.std.proofs.lemmas.Str.{chars-IsAscii}
use Rattle.haya_characters.proofs.lists.chars_of.Goals as goal

pub returns-then-is_ascii : goal.returns-then-is_ascii
returns-then-is_ascii c =
    let same : chars c.args.text.now ≡ c.args.text.now = chars-IsAscii c.args.text.now (rw c.if-is_ascii.true at c.is_ascii.ensures.cases) in
    rw same (rw c.as_bytes.ensures.value at c.bytes_as_chars.ensures)
