-- The items of a line.
use Rattle.std.specs.Prelude.{ℕ, ◌==◌, List, [], Option, None, Some}
use Rattle.std.specs.List.{slice_split}
use Rattle.haya_lines.specs.Signs.{tab}

-- what stands between the tabs
abbrev pub items : List ℕ → List (List ℕ)
items line = slice_split (λ b. b == tab) line

-- the items of the text that is left of a line, or none where no text is
abbrev pub items_left : Option (List ℕ) → List (List ℕ)
items_left None = []
items_left (Some text) = items text
