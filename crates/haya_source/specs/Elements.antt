-- The elements of a text, as they are in it, and the entries that they say.
use Rattle.std.specs.Prelude.{◌≡◌, ℕ, List, [], ◌∷◌, map}
use Rattle.std.specs.List.{AllByRecursion}
use Rattle.std.specs.Str.Lines.{lines}
use Rattle.haya_csl.specs.ItemLines.{IsItemLineOf}
use Rattle.haya_csl.specs.Libraries.{DescribesAsCsl}
use Rattle.haya_json_elements.specs.Elements.{nonempty_lines}
use Rattle.haya_json_elements.specs.declared.place.Brackets.TheVariants.{Curly, Square}
use Rattle.haya_entry.specs.Tree.{Tree}
use Rattle.haya_line_library.specs.Input as input
use Rattle.haya_json.specs.JsonLines as json_lines
use Rattle.haya_json.specs.Libraries as json
use Rattle.haya_json.specs.MemberLines.{IsMemberLineOf}
use Rattle.haya_line_slices.specs.EntryLines.{AreEntryParts, IsEntryOf}
use Rattle.haya_slices.specs.Layout.{IsLaidOut}
use Rattle.haya_source.specs.declared.kind.ElementKind.{ElementKind}
use Rattle.haya_source.specs.declared.kind.ElementKind.TheVariants.{Items, JsonLines, Lines, Members, Yaml}
use Rattle.haya_yaml_library.specs.Libraries.{DescribesAsYaml}
use Rattle.haya_yaml_slices.specs.Members.{AreMemberParts}

-- an element as it is in its text, and the entry that it says
abbrev pub Element : Type 0
Element = List ℕ × Tree

-- the bytes of elements
abbrev pub parts_of : List Element → List (List ℕ)
parts_of es = map (λ e. e.0) es

-- the entries that elements say
abbrev pub entries_of : List Element → List Tree
entries_of es = map (λ e. e.1) es

-- The elements of a text are these parts of it, in order, byte for byte: of a list those between
-- its commas, white space aside, of lines of JSON those that aren't empty, of lines those from an
-- entry of the library up to the next, and of a map in YAML one behind the other, of which each alone
-- says the member at its place.
abbrev pub IsDivided : ElementKind → List ℕ → List (List ℕ) → Type 0
IsDivided (Items by) text parts = IsLaidOut Square text parts
IsDivided Members text parts = IsLaidOut Curly text parts
IsDivided JsonLines text parts = parts ≡ nonempty_lines (lines text)
IsDivided Lines text parts = AreEntryParts text parts
IsDivided Yaml text parts = AreMemberParts text parts

-- the entry that an element of this kind says
abbrev pub Says : ElementKind → List ℕ → Tree → Type 0
Says (Items by) part entry = IsItemLineOf by part entry
Says Members part entry = IsMemberLineOf part entry
Says JsonLines part entry = json_lines.IsLineOf part entry
Says Lines part entry = IsEntryOf part entry
Says Yaml part entry = DescribesAsYaml part (entry ∷ [])

-- each element says its entry
abbrev pub SayEntries : ElementKind → List Element → Type 0
SayEntries kind es = AllByRecursion (λ e. Says kind e.0 e.1) es

-- the elements of a text, in order, repeated keys and all: each is a part of it, byte for byte, and
-- says its entry
pub record AreElementsOf (kind : ElementKind) (text : List ℕ) (es : List Element) : Type 0 where
  pub divided : IsDivided kind text (parts_of es)
  pub each : SayEntries kind es

-- the library that a text of elements of this kind describes
abbrev pub Describes : ElementKind → List ℕ → List Tree → Type 0
Describes (Items by) text library = DescribesAsCsl by text library
Describes Members text library = json.Describes text library
Describes JsonLines text library = json_lines.Describes text library
Describes Lines text library = input.Describes text library
Describes Yaml text library = DescribesAsYaml text library
