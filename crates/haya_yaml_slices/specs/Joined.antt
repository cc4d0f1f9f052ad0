-- Members in YAML, put together to a text.
use Rattle.std.specs.Prelude.{◌≡◌, ℕ, ◌-◌, Bool, ◌==◌, List, [], ◌∷◌, ◌++◌, codes, flat_map, length, slice_index, if◌then◌else◌}
use Rattle.haya_yaml_slices.specs.Members.{SaysParts}

-- whether the last byte is a line feed
abbrev pub ends_line : List ℕ → Bool
ends_line part = slice_index part (length part - 1) == 10

-- a part, with a line feed behind it where it doesn't end with one
abbrev pub line_ended : List ℕ → List ℕ
line_ended part = if ends_line part then part else part ++ 10 ∷ []

-- parts one behind the other, each with a line feed at its end; of none an empty map
abbrev pub joined : List (List ℕ) → List ℕ
joined [] = codes "{}\n"
joined (p ∷ ps) = flat_map line_ended (p ∷ ps)

-- the text is these parts, put together, and says what they say
pub record IsJoinedOf (parts : List (List ℕ)) (text : List ℕ) : Type 0 where
  pub is : text ≡ joined parts
  pub says : SaysParts text parts
