-- What is printed of elements.
use Rattle.std.specs.Prelude.{◌≡◌, ℕ, List, [], ◌∷◌, ◌++◌, flat_map, ⊤}
use Rattle.haya_json_elements.specs.declared.place.Brackets.TheVariants.{Curly, Square}
use Rattle.haya_line_slices.specs.Printed.{entries_text}
use Rattle.haya_lines.specs.Signs.{line_feed}
use Rattle.haya_slices.specs.Layout.{list_text}
use Rattle.haya_source.specs.declared.kind.ElementKind.{ElementKind}
use Rattle.haya_source.specs.declared.kind.ElementKind.TheVariants.{Items, JsonLines, Lines, Members, Yaml}
use Rattle.haya_yaml_slices.specs.Joined.{joined}
use Rattle.haya_yaml_slices.specs.Members.{SaysParts}

-- a line feed behind each
abbrev pub lines_text : List (List ℕ) → List ℕ
lines_text parts = flat_map (λ p. p ++ line_feed ∷ []) parts

-- elements as a text of their kind: a list in its brackets, or lines, or members one behind the other
abbrev pub printed_text : ElementKind → List (List ℕ) → List ℕ
printed_text (Items by) parts = list_text Square parts
printed_text Members parts = list_text Curly parts
printed_text JsonLines parts = lines_text parts
printed_text Lines parts = entries_text parts
printed_text Yaml parts = joined parts

-- members in YAML say together what each says alone, which those of other kinds always do
abbrev pub SaysSame : ElementKind → List (List ℕ) → List ℕ → Type 0
SaysSame (Items by) parts text = ⊤
SaysSame Members parts text = ⊤
SaysSame JsonLines parts text = ⊤
SaysSame Lines parts text = ⊤
SaysSame Yaml parts text = SaysParts text parts

-- the text is elements of this kind, each as it is, and says what they say
pub record IsTextOf (kind : ElementKind) (parts : List (List ℕ)) (text : List ℕ) : Type 0 where
  pub is : text ≡ printed_text kind parts
  pub same : SaysSame kind parts text
