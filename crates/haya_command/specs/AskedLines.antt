-- The lines of an input that are asked, an entry after another.
use Rattle.std.specs.Prelude.{◌≡◌, ◌≢◌, ◌≤◌, ◌⊎◌, ◌+◌, ◌-◌, ◌^◌, ℕ, IsTrue, List, [], ◌∷◌, ◌++◌, Option, Some, flat_map, length, slice_get}
use Rattle.std.specs.List.{AllZip}
use Rattle.std.specs.Str.Lines.{lines}
use Rattle.hayagriva.specs.Tree.{Tree}
use Rattle.haya_csl.specs.ItemLines as item_lines
use Rattle.haya_json_elements.specs.Elements.{element_lines, nonempty_lines}
use Rattle.haya_json_elements.specs.declared.place.Brackets.TheVariants.{Curly, Square}
use Rattle.haya_json.specs.JsonLines as json_lines
use Rattle.haya_json.specs.MemberLines as member_lines
use Rattle.haya_json.specs.Notes.{NoteView, NotesView, all_kept, kept_of}
use Rattle.haya_json.specs.declared.error.ElementError.{ElementError}
use Rattle.haya_json.specs.declared.error.ReadError.{ReadError}
use Rattle.haya_json.specs.declared.error.ReadError.TheVariants as read_error
use Rattle.haya_entry_stream.specs.Lines as lines_list
use Rattle.haya_entry_stream.specs.declared.error.EntryError.{EntryError}
use Rattle.haya_entry_stream.specs.declared.error.EntryError.TheVariants as entry_fault
use Rattle.haya_command.specs.Reading.{IsErrorOf}
use Rattle.haya_command.specs.declared.error.LibraryError.{LibraryError}
use Rattle.haya_command.specs.declared.error.LibraryError.TheVariants as input_error
use Rattle.haya_formats.specs.declared.format.Format.{Format}
use Rattle.haya_formats.specs.declared.format.Format.TheVariants.{Bibtex, CslJson, Hayagriva, JsonLines, Lines, Yaml}
use Rattle.haya_command.specs.declared.options.Options.{Options}

-- ---- the list of an input

-- The lines that a text is asked by: an item or a member of JSON a line, or its own.
abbrev pub asked_lines : Format → List ℕ → List ℕ
asked_lines (CslJson key) text = element_lines Square text
asked_lines Hayagriva text = element_lines Curly text
asked_lines _ text = text

-- the entry that a line says, in a format in which each line has one
abbrev pub IsLineIn : Format → List ℕ → Tree → Type 0
IsLineIn JsonLines line entry = json_lines.IsLineOf line entry
IsLineIn (CslJson key) line entry = item_lines.IsItemLineOf key line entry
IsLineIn Hayagriva line entry = member_lines.IsMemberLineOf line entry
IsLineIn Lines line entry = ⊥
IsLineIn Yaml line entry = ⊥
IsLineIn Bibtex line entry = ⊥

-- the entries that a text lists, in order, repeated keys and all; YAML and BibTeX
-- aren't asked so
abbrev pub IsListIn : Format → List ℕ → List Tree → Type 0
IsListIn Lines text entries = lines_list.IsListOf text entries
IsListIn JsonLines text entries = json_lines.IsListOf text entries
IsListIn (CslJson key) text entries = item_lines.Lists key text entries
IsListIn Hayagriva text entries = member_lines.Lists text entries
IsListIn Yaml text entries = ⊥
IsListIn Bibtex text entries = ⊥

-- a first part of lines, or all, lists these entries
pub record BeginsLines (format : Format) (text : List ℕ) (entries : List Tree) : Type 0 where
  pub first : List (List ℕ)
  pub more : List (List ℕ)
  pub parts : lines text ≡ first ++ more
  pub listed : AllZip (IsLineIn format) (nonempty_lines first) entries

-- the same of an input's text in a format, of which this is left
abbrev pub BeginsListIn : Format → Option (List ℕ) → List ℕ → List Tree → Type 0
BeginsListIn Lines left text entries = lines_list.BeginsList left text entries
BeginsListIn format left text entries = BeginsLines format text entries

-- ---- what is told

-- what is told of the entry of a line, whose key isn't looked for
abbrev pub line_told : Format → List ℕ → List NoteView
line_told JsonLines line = json_lines.line_told line
line_told (CslJson key) line = item_lines.line_told key line
line_told Hayagriva line = member_lines.line_told line
line_told Lines line = []
line_told Yaml line = []
line_told Bibtex line = []

-- of the entries of lines
abbrev pub lines_told : Format → List (List ℕ) → List NoteView
lines_told format ls = flat_map (line_told format) (nonempty_lines ls)

-- Nothing is told of a text whose entries are asked as they are read. Keys that come again aren't
-- looked for, and of lines that are no JSON nothing else is ever told.
abbrev pub TellsNothing : Format → List ℕ → Type 0
TellsNothing format text = lines_told format (lines (asked_lines format text)) ≡ []

-- in a strict run nothing is told of a text
abbrev pub IsAccepted : Options → Format → List ℕ → Type 0
IsAccepted options format text = IsTrue options.strict → TellsNothing format text

-- this is the first that is told of a first part of the lines, or of all
abbrev pub TellsFirst : Format → List ℕ → NoteView → Type 0
TellsFirst format text note =
    (first : List (List ℕ)) × (more : List (List ℕ)) × (lines text ≡ first ++ more)
    × (slice_get (lines_told format first) 0 ≡ Some note)

-- what one who reads a line says of it, and what is kept of what is told of it
pub record ReadsLine (format : Format) (before : NotesView) (line : List ℕ) (entry : Tree)
    (after : NotesView) : Type 0 where
  pub says : IsLineIn format line entry
  pub kept : after ≡ all_kept (line_told format line) before

-- the same of the element at this place, which is counted
pub record ReadsElement (format : Format) (place : ℕ) (before : NotesView) (line : List ℕ)
    (entry : Tree) (next : ℕ) (after : NotesView) : Type 0 where
  pub reads : ReadsLine format before line entry after
  pub number : next ≡ place + 1

-- ---- what is told of the lines in front of a fault

-- This is what is told of the lines of which these entries are, and of no more than one line behind
-- them, which was read, too.
pub record TellsLines (format : Format) (text : List ℕ) (entries : List Tree) (kept : NotesView)
    : Type 0 where
  pub first : List (List ℕ)
  pub next : List (List ℕ)
  pub more : List (List ℕ)
  pub parts : lines text ≡ (first ++ next) ++ more
  pub listed : AllZip (IsLineIn format) (nonempty_lines first) entries
  pub one : length next ≤ 1
  pub told : kept ≡ kept_of (lines_told format (first ++ next))

-- ---- faults of lines

-- memory was out where a line was read
abbrev pub IsOutOfMemory : LibraryError → Type 0
IsOutOfMemory (input_error.Json e) = e ≡ read_error.OutOfMemory
IsOutOfMemory (input_error.JsonLines e) = e.error ≡ read_error.OutOfMemory
IsOutOfMemory (input_error.Element e) = e.error ≡ read_error.OutOfMemory
IsOutOfMemory (input_error.Yaml e) = ⊥
IsOutOfMemory (input_error.Bibtex e) = ⊥
IsOutOfMemory (input_error.Lines e) = ⊥

-- the error that is told of a line of JSON that says no entry
abbrev pub IsJsonLineErrorFor : EntryError ReadError → LibraryError → Type 0
IsJsonLineErrorFor (entry_fault.Line number error) e =
    e ≡ input_error.JsonLines (record { line = number; error = error })
IsJsonLineErrorFor entry_fault.TooMany e =
    e ≡ input_error.JsonLines (record { line = 2 ^ 64 - 1; error = read_error.OutOfMemory })

-- the same of an element's line: the error has the element's number
abbrev pub IsElementErrorFor : EntryError ElementError → LibraryError → Type 0
IsElementErrorFor (entry_fault.Line number error) e = e ≡ input_error.Element error
IsElementErrorFor entry_fault.TooMany e =
    e ≡ input_error.Element (record { number = 2 ^ 64 - 1; error = read_error.OutOfMemory })

-- what is wrong with the line of the element at this place
abbrev pub IsElementErrorOf : Format → ℕ → List ℕ → ReadError → Type 0
IsElementErrorOf (CslJson key) place line error =
    item_lines.IsItemLineErrorOf key place line error
IsElementErrorOf Hayagriva place line error = member_lines.IsMemberLineErrorOf line error
IsElementErrorOf _ place line error = ⊥

-- the error of the element at this place, with its number; out of memory says nothing
abbrev pub IsElementError : Format → ℕ → List ℕ → ElementError → Type 0
IsElementError format place line e =
    (e.error ≡ read_error.OutOfMemory)
    ⊎ ((e.number ≡ place + 1) × IsElementErrorOf format place line e.error)

-- the first line that says no entry, and its error: it is behind as many elements as have one
pub record FirstElementError (format : Format) (text : List ℕ) (e : ElementError) : Type 0 where
  pub first : List (List ℕ)
  pub line : List ℕ
  pub more : List (List ℕ)
  pub entries : List Tree
  pub parts : lines text ≡ first ++ line ∷ more
  pub listed : AllZip (IsLineIn format) (nonempty_lines first) entries
  pub some : length line ≢ 0
  pub error : IsElementError format (length entries) line e

-- what an error says of the lines of a text
abbrev pub IsErrorIn : Format → List ℕ → LibraryError → Type 0
IsErrorIn (CslJson key) text (input_error.Element e) =
    (e.error ≡ read_error.OutOfMemory) ⊎ FirstElementError (CslJson key) text e
IsErrorIn Hayagriva text (input_error.Element e) =
    (e.error ≡ read_error.OutOfMemory) ⊎ FirstElementError Hayagriva text e
IsErrorIn JsonLines text e = IsErrorOf JsonLines text e
IsErrorIn Lines text e = IsErrorOf Lines text e
IsErrorIn _ text e = ⊥
