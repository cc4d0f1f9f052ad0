-- A library as lines of JSON: each line an object of an entry and its key.
use Rattle.std.specs.Prelude.{◌≡◌, ◌≢◌, ◌⊎◌, ◌==◌, ℕ, ◌+◌, List, [], ◌∷◌, ◌++◌, length, codes, None, Some, MatchBool, Result, Ok, if◌then◌else◌}
use Rattle.std.specs.List.{AllZip}
use Rattle.std.specs.Option.{option_map_or}
use Rattle.std.specs.Str.Lines.{lines}
use Rattle.json.specs.Json.{Json, document}
use Rattle.json.specs.Strict.{HasUniqueKeys}
use Rattle.haya_json_elements.specs.Elements.{nonempty_lines}
use Rattle.haya_entry.specs.Tree.{Tree}
use Rattle.hayagriva.specs.Library.{from_entries, push}
use Rattle.haya_json.specs.Entries.{entry_said}
use Rattle.haya_json.specs.Fields.{EntryView}
use Rattle.haya_json.specs.Libraries.{IsErrorOfReading}
use Rattle.haya_json.specs.Parts.{needed, plain_of}
use Rattle.haya_json.specs.Notes.{NoteView, NotesView, all_kept, kept_of}
use Rattle.haya_json.specs.Refusal.{Refusal, and_then}
use Rattle.haya_json.specs.Told.{told_alone, told_first}
use Rattle.haya_json.specs.declared.error.ReadError.{ReadError}
use Rattle.haya_json.specs.declared.error.ReadError.TheVariants.{OutOfMemory}
use Rattle.haya_json.specs.declared.error.JsonLineError.{JsonLineError}

-- ---- one line

-- The entry of an object, its member `entry`, under the key that its member `key` is, and what is
-- lost of it.
abbrev pub line_said : Json → Result EntryView Refusal
line_said j =
    and_then (needed (codes "key") plain_of j) (λ key.
    needed (codes "entry") (entry_said key None) j)

-- the entry alone
abbrev pub entry_in : Json → Result Tree Refusal
entry_in j = and_then (line_said j) (λ v. Ok v.entry)

-- the line is JSON in which no object has a name twice, and it says this entry
pub record IsLineOf (line : List ℕ) (entry : Tree) : Type 0 where
  pub value : Json
  pub parsed : document line ≡ Some value
  pub unique : HasUniqueKeys value
  pub read : entry_in value ≡ Ok entry

-- the line is JSON in which no object has a name twice, and this is read of its entry
pub record IsReadingOf (line : List ℕ) (said : EntryView) : Type 0 where
  pub value : Json
  pub parsed : document line ≡ Some value
  pub unique : HasUniqueKeys value
  pub read : line_said value ≡ Ok said

-- what an error says of a line
abbrev pub IsJsonLineErrorOf : List ℕ → ReadError → Type 0
IsJsonLineErrorOf line error = IsErrorOfReading entry_in line error

-- What is told of a line: what is lost of its entry. Members beside the entry aren't told, and a key
-- that comes again isn't looked for.
abbrev pub line_told : List ℕ → List NoteView
line_told line = option_map_or (λ j. told_alone (line_said j)) (document line) []

-- ---- lines

-- the entries that lines list, in order, repeated keys and all: one for each line that isn't empty
abbrev pub AreEntriesOf : List (List ℕ) → List Tree → Type 0
AreEntriesOf ls entries = AllZip IsLineOf (nonempty_lines ls) entries

-- what is told of lines whose entries are pushed to a library in turn
abbrev pub lines_told : List Tree → List (List ℕ) → List NoteView
lines_told library [] = []
lines_told library (l ∷ ls) =
    if length l == 0 then lines_told library ls
    else
    option_map_or (λ j. told_first library (line_said j) (λ more. lines_told more ls)) (document l) []

-- the entry of a line is pushed to a library; an empty line has none
abbrev pub PushesLine : List ℕ → List Tree → List Tree → Type 0
PushesLine line old new =
    MatchBool (length line == 0) (new ≡ old)
    ((entry : Tree) × IsLineOf line entry × (new ≡ push entry old))

-- what is told of a line, and then of those behind it, is kept as that is behind the line
abbrev pub TellsLine : List ℕ → List Tree → List Tree → NotesView → NotesView → Type 0
TellsLine line old new before after =
    (rest : List (List ℕ)) →
    all_kept (lines_told old (line ∷ rest)) before ≡ all_kept (lines_told new rest) after

-- the error of a line that isn't empty, or out of memory
abbrev pub ErrorInLine : List ℕ → ReadError → Type 0
ErrorInLine line error = (error ≡ OutOfMemory) ⊎ ((length line ≢ 0) × IsJsonLineErrorOf line error)

-- ---- a text

abbrev pub IsListOf : List ℕ → List Tree → Type 0
IsListOf text entries = AreEntriesOf (lines text) entries

-- the library that a text describes: the entries that it lists are pushed in turn
pub record Describes (text : List ℕ) (library : List Tree) : Type 0 where
  pub entries : List Tree
  pub listed : IsListOf text entries
  pub of_entries : library ≡ from_entries entries

-- this is kept of what is told of a text
abbrev pub Tells : List ℕ → NotesView → Type 0
Tells text kept = kept ≡ kept_of (lines_told [] (lines text))

-- the first line that says no entry, with its number, from 1 on
pub record FirstError (text : List ℕ) (fault : JsonLineError) : Type 0 where
  pub first : List (List ℕ)
  pub line : List ℕ
  pub more : List (List ℕ)
  pub entries : List Tree
  pub parts : lines text ≡ first ++ line ∷ more
  pub listed : AreEntriesOf first entries
  pub number : fault.line ≡ length first + 1
  pub error : ErrorInLine line fault.error

-- that line's error, or out of memory, which says nothing of the text
abbrev pub IsErrorOf : List ℕ → JsonLineError → Type 0
IsErrorOf text fault = (fault.error ≡ OutOfMemory) ⊎ FirstError text fault
