-- A given name with a delimiter behind each letter that stands alone.
use Rattle.std.specs.Prelude.{ℕ, true, ◌==◌, List, [], ◌++◌, length, map, Option, if◌then◌else◌}
use Rattle.std.specs.List.{join_with_byte, slice_split}
use Rattle.std.specs.Option.{option_map_or}
use Rattle.unicode_segmentation.specs.Grapheme.{graphemes}
use Rattle.haya_people.specs.Signs.{blank}

-- the delimiter behind an item of exactly one grapheme
unfoldable pub delimiter_behind : List ℕ → List ℕ → List ℕ
delimiter_behind delimiter item = if length (graphemes true item) == 1 then delimiter else []

-- the given name's items, separated by blanks, each with its delimiter, joined by blanks
unfoldable pub delimited : List ℕ → List ℕ → List ℕ
delimited delimiter given_name =
    join_with_byte blank
    (map (λ item. item ++ delimiter_behind delimiter item)
    (slice_split (λ b. b == blank) given_name))

-- nothing is written where there is no given name
abbrev pub first_name_with_delimiter : List ℕ → Option (List ℕ) → List ℕ
first_name_with_delimiter delimiter given_name = option_map_or (delimited delimiter) given_name []
