-- What is printed of elements as they come.
use Rattle.std.specs.Prelude.{ℕ, ◌+◌, ◌==◌, Bool, List, [], ◌∷◌, ◌++◌, decimal}
use Rattle.haya_json_elements.specs.declared.place.Brackets.TheVariants.{Curly, Square}
use Rattle.haya_line_slices.specs.Printed.{end_for}
use Rattle.haya_lines.specs.Signs.{line_feed}
use Rattle.haya_slices.specs.Layout.{element_text, end_text}
use Rattle.haya_source_stream.specs.declared.asking.Shown.{Shown}
use Rattle.haya_source_stream.specs.declared.asking.Shown.TheVariants.{Elements, Nothing, Number}
use Rattle.haya_source_stream.specs.declared.kind.StreamedKind.{StreamedKind}
use Rattle.haya_source_stream.specs.declared.kind.StreamedKind.TheVariants.{Items, JsonLines, Lines, Members}

-- an element, the first that is printed or a later one
abbrev pub part_text : StreamedKind → Bool → List ℕ → List ℕ
part_text (Items by) is_first part = element_text Square is_first part
part_text Members is_first part = element_text Curly is_first part
part_text JsonLines is_first part = part ++ line_feed ∷ []
part_text Lines is_first part = part ++ end_for part

-- elements, behind so many that are printed
abbrev pub parts_text : StreamedKind → ℕ → List (List ℕ) → List ℕ
parts_text kind n [] = []
parts_text kind n (p ∷ ps) = part_text kind (n == 0) p ++ parts_text kind (n + 1) ps

-- what is behind elements, or behind none
abbrev pub tail_text : StreamedKind → Bool → List ℕ
tail_text (Items by) is_empty = end_text Square is_empty
tail_text Members is_empty = end_text Curly is_empty
tail_text JsonLines is_empty = []
tail_text Lines is_empty = []

-- what is printed of elements, behind so many
abbrev pub told_text : Shown → StreamedKind → ℕ → List (List ℕ) → List ℕ
told_text Elements kind n parts = parts_text kind n parts
told_text Number kind n parts = []
told_text Nothing kind n parts = []

-- and behind all, of which there are so many
abbrev pub last_text : Shown → StreamedKind → ℕ → List ℕ
last_text Elements kind n = tail_text kind (n == 0)
last_text Number kind n = decimal n ++ line_feed ∷ []
last_text Nothing kind n = []
