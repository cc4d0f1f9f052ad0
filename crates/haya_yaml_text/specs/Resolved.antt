-- The value of a plain scalar.
use Rattle.std.specs.Prelude.{ℕ, ◌||◌, List, Bool, true, false, Option, Some, None, if◌then◌else◌, codes}
use Rattle.std.specs.Str.{bytes_eq}
use Rattle.json.specs.Json.{Json, null, boolean, number, string}
use Rattle.json.specs.Word.{after_number}
use Rattle.haya_yaml_text.specs.Signs.{is_empty}

abbrev pub is_null : List ℕ → Bool
is_null s =
    bytes_eq s (codes "~") || bytes_eq s (codes "null") || bytes_eq s (codes "Null")
    || bytes_eq s (codes "NULL")

abbrev pub is_true : List ℕ → Bool
is_true s = bytes_eq s (codes "true") || bytes_eq s (codes "True") || bytes_eq s (codes "TRUE")

abbrev pub is_false : List ℕ → Bool
is_false s = bytes_eq s (codes "false") || bytes_eq s (codes "False") || bytes_eq s (codes "FALSE")

-- the text is a number as JSON writes it
abbrev pub is_done : Option (List ℕ) → Bool
is_done None = false
is_done (Some rest) = is_empty rest

abbrev pub is_number : List ℕ → Bool
is_number s = is_done (after_number s)

unfoldable pub resolve : List ℕ → Json
resolve s =
    if is_null s then null else if is_true s then boolean true
    else if is_false s then boolean false else if is_number s then number s else string s
