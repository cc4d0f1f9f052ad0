-- What is left to read of the lines of elements.
use Rattle.std.specs.Prelude.{ℕ, List, Option, option_map}
use Rattle.haya_json_elements.specs.Elements.{lines_from}
use Rattle.haya_json_elements.specs.declared.lines.ElementLines.{ElementLines}
use Rattle.haya_json_elements.specs.declared.place.Brackets.{Brackets}
use Rattle.haya_json_elements.specs.declared.place.Place.TheVariants.{Front}

-- the lines of all that a reader has left
abbrev pub unread_lines : {R : Type 0} → R → Brackets → ElementLines R
unread_lines reader brackets = record { reader = reader; brackets = brackets; place = Front }

-- what the lines are read from
abbrev pub reader_of : {R : Type 0} → ElementLines R → R
reader_of lines = lines.reader

-- what is left to read of the lines, where that of their reader is known
abbrev pub lines_remaining : {R : Type 0} → (R → Option (List ℕ)) → ElementLines R
    → Option (List ℕ)
lines_remaining remaining lines =
    option_map (lines_from lines.brackets lines.place) (remaining lines.reader)
