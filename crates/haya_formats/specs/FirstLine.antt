-- The first line of a text, and what it begins with.
use Rattle.std.specs.Prelude.{ℕ, ◌==◌, ◌+◌, ◌||◌, ◌&&◌, Bool, true, false, List, Option, Some, None, codes, drop, find, is_some, length, nat_eq, nat_le, not, position, slice_get, slice_index, if◌then◌else◌}
use Rattle.std.specs.Char.{is_ascii_alphanumeric, is_ascii_digit}
use Rattle.std.specs.List.{ends_with, list_any, starts_with}
use Rattle.std.specs.Str.{trim_start}
use Rattle.std.specs.Str.Lines.{lines}

-- what is behind a sign, where the text begins with that, white space aside
abbrev pub behind : List ℕ → List ℕ → Option (List ℕ)
behind sign text =
    if starts_with nat_eq (trim_start text) sign
    then Some (drop (length sign) (trim_start text)) else None

abbrev pub begins : List ℕ → List ℕ → Bool
begins sign line = starts_with nat_eq line sign

-- the line says nothing: white space aside it is empty, or begins with `#`
abbrev pub is_comment : List ℕ → Bool
is_comment line = (length (trim_start line) == 0) || begins (codes "#") (trim_start line)

-- a letter, a digit or another sign that a key has
abbrev pub is_key_byte : ℕ → Bool
is_key_byte b = is_ascii_alphanumeric b || list_any (λ s. s == b) (codes "-_./+\"'") || nat_le 128 b

-- nothing, or a blank
abbrev pub is_gap : Option ℕ → Bool
is_gap None = true
is_gap (Some b) = (b == 32) || (b == 9)

-- of a line that begins with a key of this length: a colon is behind it, and then nothing or a
-- blank
abbrev pub is_key_at : List ℕ → Option ℕ → Bool
is_key_at line None = false
is_key_at line (Some end) =
    nat_le 1 end && (slice_index line end == 58) && is_gap (slice_get line (end + 1))

-- the line begins with a key of YAML
abbrev pub is_key : List ℕ → Bool
is_key line = is_key_at line (position (λ b. not (is_key_byte b)) line)

-- the line ends with a colon, and has no tab, as those of a library's rows do
abbrev pub ends_with_key : List ℕ → Bool
ends_with_key line = ends_with nat_eq line (codes ":") && not (list_any (λ b. b == 9) line)

-- the line begins as those of YAML do, or ends with the colon of a key
abbrev pub is_yaml : List ℕ → Bool
is_yaml line =
    begins (codes "---") line || begins (codes "%YAML") line || begins (codes "- ") line
    || is_key line || ends_with_key line

-- the first line that says something
abbrev pub first_line : List ℕ → Option (List ℕ)
first_line text = find (λ line. not (is_comment line)) (lines text)

-- a text whose first line is this, if there is one, is in YAML
abbrev pub is_yaml_from : Option (List ℕ) → Bool
is_yaml_from None = false
is_yaml_from (Some line) = is_yaml line

abbrev pub is_yaml_text : List ℕ → Bool
is_yaml_text text = is_yaml_from (first_line text)

-- white space aside, the line begins with a bracket, as JSON does
abbrev pub is_json : List ℕ → Bool
is_json line = is_some (behind (codes "[") line) || is_some (behind (codes "{") line)

-- of a line that begins with so many digits: there are one to three, and then a tab
abbrev pub is_row_at : List ℕ → Option ℕ → Bool
is_row_at line None = false
is_row_at line (Some end) = nat_le 1 end && nat_le end 3 && (slice_index line end == 9)

-- the line begins as those of a library do
abbrev pub is_row : List ℕ → Bool
is_row line = is_row_at line (position (λ b. not (is_ascii_digit b)) line)
