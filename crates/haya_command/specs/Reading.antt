-- The library of texts in any of the formats.
use Rattle.std.specs.Prelude.{◌≡◌, ◌≢◌, ◌⊎◌, ◌+◌, ◌∷◌, ◌++◌, ⊤, ℕ, List, [], IsTrue, None, Option, Some, String, flat_map, fold, is_some, length, map, string_bytes}
use Rattle.std.specs.List.{AllZip}
use Rattle.std.specs.Io.KnownBytes.{Consumes, IsAtEnd}
use Rattle.std.specs.IoError.{error_kind}
use Rattle.std.specs.Str.{IsUtf8}
use Rattle.std.specs.Str.Lines.{lines}
use Rattle.std.specs.Str.Lossy.{utf8_valid_len}
use Rattle.std.specs.declared.alloc.Global.{Global}
use Rattle.std.specs.declared.io.ErrorKind.TheVariants as kind
use Rattle.hayagriva.specs.Library.{from_entries, get, key_of, push}
use Rattle.hayagriva.specs.Tree.{Tree}
use Rattle.haya_bibtex.specs.Libraries.{DescribesAsBibtex, IsBibtexErrorOf, TellsAsBibtex}
use Rattle.haya_csl.specs.Libraries.{DescribesAsCsl, IsCslErrorOf}
use Rattle.haya_csl.specs.Told.{TellsAsCsl}
use Rattle.haya_line_library.specs.Input as input
use Rattle.haya_line_library.specs.Repeats.{DescribesAgain}
use Rattle.haya_line_library.specs.TextReading.{FaultInText}
use Rattle.haya_json.specs.JsonLines as json_lines
use Rattle.haya_json.specs.Libraries as json
use Rattle.haya_json.specs.Notes.{NoteView, NotesView, again, first_note, kept_of, lost_here, none_kept, note_of, note_view}
use Rattle.haya_json.specs.Told as json_told
use Rattle.haya_json.specs.Told.{told_again}
use Rattle.haya_yaml_library.specs.Libraries.{DescribesAsYaml, IsYamlErrorOf, TellsAsYaml}
use Rattle.haya_json.specs.declared.notes.Note.{Note}
use Rattle.haya_formats.specs.Block.{without_mark}
use Rattle.haya_formats.specs.Formats.{format_for, keyed_by}
use Rattle.haya_formats.specs.Likeness.{foreign_for}
use Rattle.haya_command.specs.declared.error.CommandError.{CommandError}
use Rattle.haya_command.specs.declared.error.CommandError.TheVariants as fault
use Rattle.haya_command.specs.declared.error.LibraryError.{LibraryError}
use Rattle.haya_command.specs.declared.error.LibraryError.TheVariants.{Bibtex as BibtexError, Json, JsonLines as JsonLinesError, Lines as LinesError, Yaml as YamlError}
use Rattle.haya_formats.specs.declared.format.Format.{Format}
use Rattle.haya_formats.specs.declared.format.Format.TheVariants.{Hayagriva, Yaml, Bibtex, CslJson, JsonLines, Lines}
use Rattle.haya_command.specs.declared.options.Input.{Input}
use Rattle.haya_command.specs.declared.options.Options.{Options}

-- ---- one text

-- the library that a text describes in a format
abbrev pub Describes : Format → List ℕ → List Tree → Type 0
Describes Hayagriva text library = json.Describes text library
Describes Yaml text library = DescribesAsYaml text library
Describes Bibtex text library = DescribesAsBibtex text library
Describes (CslJson key) text library = DescribesAsCsl key text library
Describes JsonLines text library = json_lines.Describes text library
Describes Lines text library = input.Describes text library

-- the note that a key comes again, which stands on this line
abbrev pub again_note : List ℕ × ℕ → NoteView
again_note repeat = note_of repeat.0 (lost_here again)

-- nothing is told but the keys that come again
abbrev pub TellsRepeats : List ℕ → NotesView → Type 0
TellsRepeats text kept =
    (library : List Tree) × (repeats : List (List ℕ × ℕ))
    × DescribesAgain text library repeats × (kept ≡ kept_of (map again_note repeats))

-- What is told of a text in a format: what is lost of its entries, and the keys that come again, as
-- far as the format has them.
abbrev pub Tells : Format → List ℕ → NotesView → Type 0
Tells Hayagriva text kept = json_told.Tells text kept
Tells Yaml text kept = TellsAsYaml text kept
Tells Bibtex text kept = TellsAsBibtex text kept
Tells (CslJson key) text kept = TellsAsCsl key text kept
Tells JsonLines text kept = json_lines.Tells text kept
Tells Lines text kept = TellsRepeats text kept

-- what an error says of a text
abbrev pub IsErrorOf : Format → List ℕ → LibraryError → Type 0
IsErrorOf Hayagriva text (Json e) = json.IsErrorOf text e
IsErrorOf Yaml text (YamlError e) = IsYamlErrorOf text e
IsErrorOf Bibtex text (BibtexError e) = IsBibtexErrorOf text e
IsErrorOf (CslJson key) text (Json e) = IsCslErrorOf key text e
IsErrorOf JsonLines text (JsonLinesError e) = json_lines.IsErrorOf text e
IsErrorOf Lines text (LinesError e) = FaultInText (input.rows_read 1 0 (lines text)) e
IsErrorOf _ text _ = ⊥

-- nothing is told of a text
abbrev pub IsWhole : Format → List ℕ → Type 0
IsWhole format text = Tells format text none_kept

-- this is the first that is told of a text
abbrev pub IsFirstTold : Format → List ℕ → NoteView → Type 0
IsFirstTold format text note =
    (kept : NotesView) × Tells format text kept × (first_note kept ≡ Some note)

-- ---- texts together

-- the format of a text under these options
abbrev pub format_in : Options → List ℕ → Format
format_in options text = keyed_by options.key (format_for options.from text)

-- the library that a text is read as: the one that it describes; in a strict run nothing is told of
-- it
pub record IsReadAs (options : Options) (text : List ℕ) (library : List Tree) : Type 0 where
  pub describes : Describes (format_in options text) text library
  pub whole : IsTrue options.strict → IsWhole (format_in options text) text

abbrev pub texts : List Input → List (List ℕ)
texts inputs = map (λ i. string_bytes i.text) inputs

-- what inputs are called
abbrev pub input_names : List Input → List (List ℕ)
input_names inputs = map (λ i. string_bytes i.name) inputs

-- a library after the entries of a part are pushed in turn
abbrev pub all_pushed : List Tree → List Tree → List Tree
all_pushed library part = fold (λ done t. push t done) library part

-- the library of texts: the entries of each text's library in turn, pushed one after another
pub record AreReadAs (options : Options) (texts : List (List ℕ)) (library : List Tree)
    : Type 0 where
  pub parts : List (List Tree)
  pub each : AllZip (IsReadAs options) texts parts
  pub pushed : library ≡ from_entries (flat_map (λ part. part) parts)

-- ---- what is told of texts together

-- which keys of a text's library come again, as the library of the texts before it has them
abbrev pub keys_again : List Tree → List Tree → List NoteView
keys_again library part = flat_map (λ t. told_again library (key_of t)) part

-- what is told of a text, by the notes that are kept; in a strict run there are none
pub record TellsBy (options : Options) (text : List ℕ) (kept : NotesView) : Type 0 where
  pub notes : List NoteView
  pub tells : Tells (format_in options text) text kept
  pub by_notes : kept ≡ kept_of notes
  pub strict : IsTrue options.strict → notes ≡ []

-- This is told of a text that is read as this part, behind the library of those before it: what is
-- told of the text alone, and which of its keys come again. In a strict run nothing is.
pub record TellsPart (options : Options) (library : List Tree) (text : List ℕ) (part : List Tree)
    (kept : NotesView) : Type 0 where
  pub notes : List NoteView
  pub of_text : Tells (format_in options text) text (kept_of notes)
  pub all : kept ≡ kept_of (notes ++ keys_again library part)
  pub strict : IsTrue options.strict → kept ≡ none_kept

-- the same of each of these texts, whose parts are pushed to the library in turn
abbrev pub AreTold : Options → List Tree → List (List ℕ) → List (List Tree) → List NotesView
    → Type 0
AreTold options library [] [] [] = ⊤
AreTold options library (text ∷ texts) (part ∷ parts) (kept ∷ more) =
    TellsPart options library text part kept
    × AreTold options (all_pushed library part) texts parts more
AreTold options library _ _ _ = ⊥

-- the library after the part that a text is read as, and what is told of texts after what is told
-- of this one
pub record AddsPart (options : Options) (text : List ℕ) (old new : List Tree)
    (before after : List NotesView) : Type 0 where
  pub part : List Tree
  pub kept : NotesView
  pub reads : IsReadAs options text part
  pub pushed : new ≡ all_pushed old part
  pub tells : TellsPart options old text part kept
  pub all : after ≡ before ++ kept ∷ []

-- the library of texts, and what is told of each
pub record AreCollected (options : Options) (texts : List (List ℕ)) (library : List Tree)
    (told : List NotesView) : Type 0 where
  pub reads : AreReadAs options texts library
  pub each : AreTold options [] texts reads.parts told

-- ---- faults

-- What was left of an input is a text, and is read to its end: without the byte order mark that it
-- may begin with, and only where it isn't foreign.
pub record ReadsText (given : Option Format) (unread left : Option (List ℕ)) (text : List ℕ)
    : Type 0 where
  pub bytes : List ℕ
  pub read : Consumes unread left bytes
  pub same : text ≡ without_mark bytes
  pub own : foreign_for given text ≡ None

-- the fault that an input is foreign that is called so and begins with these bytes, or out of
-- memory
abbrev pub IsForeignFault : List ℕ → Option Format → List ℕ → CommandError → Type 0
IsForeignFault name given bytes (fault.Foreign input) =
    (string_bytes input.name ≡ name) × (foreign_for given bytes ≡ Some input.foreign)
IsForeignFault name given bytes fault.OutOfMemory = Unit {0}
IsForeignFault name given bytes _ = ⊥

-- the first byte that isn't UTF-8 has this number, from 1 on
abbrev pub IsFirstNotUtf8 : List ℕ → ℕ → Type 0
IsFirstNotUtf8 bytes at =
    (¬ IsUtf8 (without_mark bytes))
    × (at + length (without_mark bytes)
    ≡ length bytes + utf8_valid_len (without_mark bytes) + 1)

-- What a fault says of an input that is called so, where not all that was left of it is read as a
-- text: a read failed and memory wasn't out, or what was left is foreign, or isn't UTF-8.
abbrev pub IsReadFault : List ℕ → Option Format → Option (List ℕ) → Option (List ℕ) → CommandError
    → Type 0
IsReadFault name given unread left (fault.CannotRead called e) =
    (string_bytes called ≡ name) × (error_kind e ≢ kind.OutOfMemory)
IsReadFault name given unread left (fault.Foreign input) =
    (string_bytes input.name ≡ name)
    × ((bytes : List ℕ) × Consumes unread left bytes × IsAtEnd left
    × (foreign_for given (without_mark bytes) ≡ Some input.foreign))
IsReadFault name given unread left (fault.NotUtf8 called at) =
    (string_bytes called ≡ name)
    × ((bytes : List ℕ) × Consumes unread left bytes × IsAtEnd left × IsFirstNotUtf8 bytes at)
IsReadFault name given unread left fault.OutOfMemory = Unit {0}
IsReadFault name given unread left _ = ⊥

-- the fault that this is the first that is told of the text that is called so
pub record IsLoss (name : List ℕ) (kept : NotesView) (e : CommandError) : Type 0 where
  pub called : String Global
  pub note : Note
  pub is : e ≡ fault.PassedOver called note
  pub same : string_bytes called ≡ name
  pub first : first_note kept ≡ Some (note_view note)

-- the fault that this key of the text that is called so comes again
pub record IsAgainFault (name key : List ℕ) (e : CommandError) : Type 0 where
  pub called : String Global
  pub again : String Global
  pub is : e ≡ fault.Again called again
  pub same : string_bytes called ≡ name
  pub same_key : string_bytes again ≡ key

-- the same of a key that the library has
abbrev pub IsKeyAgain : List ℕ → List Tree → List ℕ → CommandError → Type 0
IsKeyAgain name library key e = IsTrue (is_some (get key library)) × IsAgainFault name key e

-- the same of the first such key of this part
pub record IsAgain (name : List ℕ) (library part : List Tree) (e : CommandError) : Type 0 where
  pub before : List Tree
  pub t : Tree
  pub after : List Tree
  pub parts : part ≡ before ++ t ∷ after
  pub none : keys_again library before ≡ []
  pub again : IsKeyAgain name library (key_of t) e

-- What a fault says of an input, which it names: an error of its text, or, in a strict run, the
-- first that is told of it. Other faults are none of an input alone.
abbrev pub IsFaultIn : Options → CommandError → Input → Type 0
IsFaultIn options (fault.Input name e) input =
    (string_bytes name ≡ string_bytes input.name)
    × IsErrorOf (format_in options (string_bytes input.text)) (string_bytes input.text) e
IsFaultIn options (fault.PassedOver name note) input =
    (string_bytes name ≡ string_bytes input.name) × IsTrue options.strict
    × IsFirstTold (format_in options (string_bytes input.text)) (string_bytes input.text)
    (note_view note)
IsFaultIn options _ input = ⊥

-- the fault that a key of an input comes again that this library has
pub record IsAgainIn (options : Options) (library : List Tree) (input : Input) (e : CommandError)
    : Type 0 where
  pub part : List Tree
  pub reads : IsReadAs options (string_bytes input.text) part
  pub again : IsAgain (string_bytes input.name) library part e
  pub strict : IsTrue options.strict

-- a fault of an input behind the library of those before it
abbrev pub IsFaultBehind : Options → List Tree → Input → CommandError → Type 0
IsFaultBehind options library input e =
    IsFaultIn options e input ⊎ IsAgainIn options library input e

-- a fault of this input, where those before it are read as a library, and this is told of them
pub record IsFaultAmong (options : Options) (inputs : List Input) (e : CommandError) : Type 0 where
  pub before : List Input
  pub input : Input
  pub after : List Input
  pub library : List Tree
  pub told : List NotesView
  pub parts : inputs ≡ before ++ input ∷ after
  pub collected : AreCollected options (texts before) library told
  pub fault : IsFaultBehind options library input e

-- out of memory, or a fault of one of the inputs
abbrev pub IsInputError : Options → List Input → CommandError → Type 0
IsInputError options inputs e = (e ≡ fault.OutOfMemory) ⊎ IsFaultAmong options inputs e
