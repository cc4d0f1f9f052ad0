-- The entries that a text lists, a member a line.
use Rattle.std.specs.Prelude.{◌≡◌, ℕ, List, [], ◌∷◌, Option, None, Some, option_map, flat_map, Ok}
use Rattle.std.specs.List.{AllZip}
use Rattle.std.specs.Option.{option_map_or}
use Rattle.std.specs.Str.Lines.{lines}
use Rattle.json.specs.Json.{Json, Members, document, member, no_members, object}
use Rattle.json.specs.Lex.{tokens}
use Rattle.json.specs.Strict.{HasUniqueKeys, MembersHaveUniqueKeys}
use Rattle.json.specs.Token.{Token}
use Rattle.haya_json_elements.specs.Elements.{IsMember, element_lines, elements, nonempty_lines}
use Rattle.haya_json_elements.specs.declared.place.Brackets.TheVariants.{Curly}
use Rattle.haya_entry.specs.Tree.{Tree}
use Rattle.haya_json.specs.Alone.{value_alone}
use Rattle.haya_json.specs.Entries.{entry_of}
use Rattle.haya_json.specs.Libraries.{IsErrorOfJson, entries_of, library_of}
use Rattle.haya_json.specs.Notes.{NoteView, NotesView, kept_of}
use Rattle.haya_json.specs.Told.{told}
use Rattle.haya_json.specs.declared.error.ReadError.{ReadError}

-- ---- one line

-- the object of one member
abbrev pub single_object : List ℕ → Json → Json
single_object name j = object (member name j no_members)

-- the object of the member that these tokens are
abbrev pub single_object_in : List Token → Option Json
single_object_in (Token.key name ∷ ts) = option_map (single_object name) (value_alone ts)
single_object_in _ = None

-- the object of the member that a line is
abbrev pub member_in : List ℕ → Option Json
member_in line = single_object_in (tokens line)

-- the line is a member in which no object has a name twice, and it says the entry under its name
pub record IsMemberLineOf (line : List ℕ) (entry : Tree) : Type 0 where
  pub name : List ℕ
  pub value : Json
  pub parsed : IsMember line name value
  pub unique : HasUniqueKeys value
  pub read : entry_of name None value ≡ Ok entry

-- what an error says of a line: what it says of a library that has this member alone
abbrev pub IsMemberLineErrorOf : List ℕ → ReadError → Type 0
IsMemberLineErrorOf line error = IsErrorOfJson library_of (member_in line) error

-- what is told of a line: what is lost of its entry
abbrev pub line_told : List ℕ → List NoteView
line_told line = option_map_or told (member_in line) []

-- ---- lines

-- what is told of the entries of lines
abbrev pub lines_told : List (List ℕ) → List NoteView
lines_told ls = flat_map line_told (nonempty_lines ls)

-- ---- a text

-- The members of a text, each on a line of its own, say these entries, in order, repeated keys and
-- all. This is kept of what is told of them.
pub record LinesList (text : List ℕ) (entries : List Tree) (kept : NotesView) : Type 0 where
  pub each : AllZip IsMemberLineOf (elements Curly text) entries
  pub notes : kept ≡ kept_of (lines_told (lines (element_lines Curly text)))

-- The text is an object in JSON. No object in a value of it has a name twice, and its members say
-- these entries, in order, repeated keys and all.
pub record Lists (text : List ℕ) (entries : List Tree) : Type 0 where
  pub members : Members
  pub parsed : document text ≡ Some (object members)
  pub unique : MembersHaveUniqueKeys members
  pub read : entries_of members ≡ Ok entries
