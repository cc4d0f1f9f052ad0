-- Texts with commas between their parts.
use Rattle.std.specs.Prelude.{ℕ, ◌==◌, List}
use Rattle.std.specs.List.{slice_split}
use Rattle.haya_questions.specs.Columns.{comma}

-- the parts of a text between its commas
abbrev pub parts : List ℕ → List (List ℕ)
parts text = slice_split (λ b. b == comma) text
