-- The first bytes of an input.
use Rattle.std.specs.Prelude.{ℕ, List, [], ◌∷◌, drop, nat_eq, take, if◌then◌else◌}
use Rattle.std.specs.List.{starts_with}
use Rattle.std.specs.Str.Lossy.{utf8_valid_len}
use Rattle.haya_formats.specs.declared.block.TheConstants.{FIRST_BLOCK}

-- the byte order mark of UTF-8
abbrev pub mark : List ℕ
mark = 0xEF ∷ 0xBB ∷ 0xBF ∷ []

-- the bytes without the mark that they may begin with
abbrev pub without_mark : List ℕ → List ℕ
without_mark bytes = if starts_with nat_eq bytes mark then drop 3 bytes else bytes

-- of these bytes those in front of the first that isn't UTF-8
abbrev pub valid_front : List ℕ → List ℕ
valid_front bytes = take (utf8_valid_len bytes) bytes

-- the text that bytes begin with, as far as it is looked at
abbrev pub first_text : List ℕ → List ℕ
first_text bytes = valid_front (take FIRST_BLOCK bytes)
