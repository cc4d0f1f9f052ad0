-- Rows of what was passed over, as names with numbers.
use Rattle.std.specs.Prelude.{ℕ, List, map, string_bytes}
use Rattle.hayagriva_c.specs.declared.notes.Noted.{Noted}

-- names, each with how often it came
abbrev pub noted_row : Noted → List ℕ × ℕ
noted_row row = (string_bytes row.name, row.count)

abbrev pub noted : List Noted → List (List ℕ × ℕ)
noted rows = map noted_row rows
