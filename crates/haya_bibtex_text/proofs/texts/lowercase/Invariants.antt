use Rattle.std.proofs.Common.{◌≡◌, map, take}
use Rattle.std.specs.Char.{to_ascii_lowercase}
use Rattle.std.specs.Str.{chars}
use Rattle.std.specs.String.{string_bytes}
use Rattle.haya_bibtex_text.proofs.texts.lowercase.Given as goal

-- the characters so far are added
abbrev pub invariant-characters : goal.invariant-characters
invariant-characters l =
    chars (string_bytes l.text) ≡ map to_ascii_lowercase (take l.c-index l.characters)
