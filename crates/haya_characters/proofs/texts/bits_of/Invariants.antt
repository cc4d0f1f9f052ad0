use Rattle.std.proofs.Common.{◌<◌, take}
use Rattle.std.specs.Str.{IsAscii}
use Rattle.haya_characters.proofs.texts.bits_of.Given as goal

-- the characters so far are ASCII where their bits are
abbrev pub invariant-characters : goal.invariant-characters
invariant-characters l = l.bits < 128 → IsAscii (take l.c-index l.characters)
