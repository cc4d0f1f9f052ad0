use Rattle.std.proofs.Common.{◌≡◌, ◌++◌, take}
use Rattle.std.specs.Str.{chars}
use Rattle.std.specs.String.{string_bytes}
use Rattle.haya_characters.proofs.texts.push_chars.Given as goal

-- the characters so far are added
abbrev pub invariant-characters : goal.invariant-characters
invariant-characters l =
    chars (string_bytes l.text) ≡ chars (string_bytes l.initial.text) ++ take l.c-index l.characters
