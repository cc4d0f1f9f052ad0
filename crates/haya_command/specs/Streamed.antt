-- Entries asked one after another, as they are read.
use Rattle.std.specs.Prelude.{◌≡◌, ◌≢◌, ◌⊎◌, ◌≤◌, ◌+◌, ◌&&◌, ◌||◌, ℕ, Any, Bool, IfSome, IsFalse, IsTrue, MatchBool, List, [], ◌∷◌, ◌++◌, Option, None, Some, String, decimal, filter, is_some, length, map, nat_le, nat_lt, string_bytes, false, if◌then◌else◌}
use Rattle.std.specs.Io.KnownBytes.{Appends, Consumes, IsAtEnd}
use Rattle.std.specs.IoError.{error_kind}
use Rattle.std.specs.Str.{IsUtf8, chars}
use Rattle.std.specs.Str.Lines.{lines}
use Rattle.std.specs.declared.alloc.Global.{Global}
use Rattle.std.specs.declared.io.ErrorKind.TheVariants as kind
use Rattle.hayagriva.specs.Fault as selector
use Rattle.hayagriva.specs.Query.{AreHits}
use Rattle.hayagriva.specs.Reading.{TextFails}
use Rattle.hayagriva.specs.Syntax.{Syntax}
use Rattle.hayagriva.specs.Tree.{Tree}
use Rattle.hayagriva.specs.declared.query.Hit.{Hit}
use Rattle.haya_asked.specs.Asked.{passes}
use Rattle.haya_asked.specs.declared.columns.Columns.{Columns}
use Rattle.haya_json.specs.Notes.{NotesView, kept_of, none_kept, note_view}
use Rattle.haya_lines.specs.Signs.{line_feed}
use Rattle.haya_entry_stream.specs.declared.error.ListError.{ListError}
use Rattle.haya_entry_stream.specs.declared.error.ListError.TheVariants.{Entry, Line}
use Rattle.haya_printing.specs.declared.error.LinesError.{LinesError}
use Rattle.haya_questions.specs.Columns.{header, rows}
use Rattle.haya_questions.specs.Place.{place_view}
use Rattle.haya_questions.specs.Test.{test_view}
use Rattle.haya_line_stream.specs.Streamed.{IsEndedPart}
use Rattle.haya_line_stream.specs.declared.error.StreamError.{StreamError}
use Rattle.haya_line_stream.specs.declared.error.StreamError.TheVariants as stream
use Rattle.haya_line_stream.specs.declared.error.WriteError.TheVariants as write
use Rattle.haya_command.specs.Form.{is_library}
use Rattle.haya_command.specs.AskedLines.{BeginsListIn, IsAccepted, IsErrorIn, IsListIn, IsOutOfMemory, TellsFirst, TellsLines, asked_lines, lines_told}
use Rattle.haya_command.specs.Streamable.{is_streamable}
use Rattle.haya_command.specs.Printed.{IsTextOf}
use Rattle.haya_command.specs.declared.error.CommandError.{CommandError}
use Rattle.haya_command.specs.declared.error.CommandError.TheVariants as fault
use Rattle.haya_command.specs.declared.error.LibraryError.{LibraryError}
use Rattle.haya_formats.specs.declared.format.Format.{Format}
use Rattle.haya_formats.specs.declared.format.Format.TheVariants.{Lines}
use Rattle.haya_command.specs.declared.options.Options.{Options}

-- ---- what is asked

-- what a fault says where nothing is asked
abbrev pub IsAskerFault : Options → CommandError → Type 0
IsAskerFault options (fault.Selector e) =
    IfSome (selector.fault e) (TextFails (chars (string_bytes options.selector)))
IsAskerFault options fault.StreamsNoSource = IsTrue (is_some options.source)
IsAskerFault options fault.CannotStream = IsTrue (is_library options.to)
IsAskerFault options fault.StreamAsks = IsFalse (is_streamable options)
IsAskerFault options fault.OutOfMemory = Unit {0}
IsAskerFault options _ = ⊥

-- the hits that are asked for: those that pass all tests
abbrev pub passing : Options → List Hit → List Hit
passing options hits = filter (passes (map test_view options.questions.tests.items)) hits

-- so many are no more than are wanted
abbrev pub IsWithin : Option ℕ → ℕ → Type 0
IsWithin None n = Unit {0}
IsWithin (Some most) n = n ≤ most

-- whether so many are as many as are wanted
abbrev pub reaches : Option ℕ → ℕ → Bool
reaches None n = false
reaches (Some most) n = nat_le most n

-- whether no more hits are needed: as many as are wanted are there, or, in a quiet run, one is
abbrev pub has_enough : Options → ℕ → Bool
has_enough options n = (options.quiet && nat_lt 0 n) || reaches options.questions.max n

-- the hits in the form, or their rows where a table is asked for
abbrev pub IsToldIn : Options → Option Columns → List Hit → List ℕ → Type 0
IsToldIn options None hits text = IsTextOf options.strict options.to hits text
IsToldIn options (Some columns) hits text =
    text ≡ rows columns.table (map place_view columns.places.items) hits

-- What is printed of hits as they come: nothing where the run is quiet or counts them, otherwise
-- their rows, or their text in the form.
abbrev pub IsTold : Options → List Hit → List ℕ → Type 0
IsTold options hits text =
    MatchBool options.quiet (text ≡ [])
    (MatchBool options.count (text ≡ []) (IsToldIn options options.columns hits text))

-- the row of a table's names, where it is wanted
abbrev pub header_text : Option Columns → List ℕ
header_text None = []
header_text (Some columns) =
    if columns.has_header then header columns.table (map place_view columns.places.items) else []

-- what is printed before any has come
abbrev pub start_text : Options → List ℕ
start_text options =
    if options.quiet then [] else if options.count then [] else header_text options.columns

-- what is printed when all have come: their number, and a line feed, where it is asked for
abbrev pub end_text : Options → ℕ → List ℕ
end_text options n =
    if options.quiet then [] else if options.count then decimal n ++ line_feed ∷ [] else []

-- one entry is asked: it is a hit that is asked for, which is counted and printed, or none
pub record AsksEntry (options : Options) (selector : Syntax) (before : ℕ) (entry : Tree)
    (printed : List ℕ) (next_options : Options) (next_selector : Syntax) (after : ℕ) : Type 0 where
  pub hits : List Hit
  pub are : AreHits selector (entry ∷ []) hits
  pub told : IsTold options (passing options hits) printed
  pub count : after ≡ before + length (passing options hits)
  pub same_options : next_options ≡ options
  pub same_selector : next_selector ≡ selector

-- ---- an input

-- these hits of entries are counted, but for those that fail a test: no more than are wanted, and
-- what is told of them is this
pub record AreCounted (options : Options) (selector : Syntax) (before after : ℕ)
    (entries : List Tree) (printed : List ℕ) : Type 0 where
  pub hits : List Hit
  pub are : AreHits selector entries hits
  pub told : IsTold options (passing options hits) printed
  pub count : after ≡ before + length (passing options hits)
  pub within : IsWithin options.questions.max before → IsWithin options.questions.max after

-- the entries that a text lists are asked: all input that was left is a text, its hits are counted
-- and printed, and this is kept of what is told of it
pub record AsksInput (format : Format) (options : Options) (selector : Syntax) (before after : ℕ)
    (kept : NotesView) (unread left out_before out_after : Option (List ℕ)) : Type 0 where
  pub text : List ℕ
  pub entries : List Tree
  pub printed : List ℕ
  pub read : Consumes unread left text
  pub at_end : IsAtEnd left
  pub list : IsListIn format text entries
  pub notes : kept ≡ kept_of (lines_told format (lines (asked_lines format text)))
  pub accepted : IsAccepted options format text
  pub counted : AreCounted options selector before after entries printed
  pub prints : Appends out_before out_after printed

-- the first entries that a text lists are asked, of the lines that have ended: their hits are enough
pub record AsksFirst (format : Format) (options : Options) (selector : Syntax) (before after : ℕ)
    (unread left out_before out_after : Option (List ℕ)) : Type 0 where
  pub text : List ℕ
  pub part : List ℕ
  pub entries : List Tree
  pub printed : List ℕ
  pub read : Consumes unread left text
  pub of_text : IsEndedPart left text part
  pub list : BeginsListIn format left part entries
  pub counted : AreCounted options selector before after entries printed
  pub enough : IsTrue (has_enough options after)
  pub prints : Appends out_before out_after printed

-- What a fault says of the input that is called so, of its text, and of what isn't written. Nothing
-- is said where memory is out, and nothing of the text where what is printed can't be written.
abbrev pub Why : Options → Format → List ℕ → List ℕ → List ℕ → CommandError → Type 0
Why options format name text unwritten (fault.Input called e) =
    (string_bytes called ≡ name) × IsErrorIn format text e × (unwritten ≡ [])
Why options format name text unwritten (fault.PassedOver called note) =
    (string_bytes called ≡ name) × IsTrue options.strict × TellsFirst format text (note_view note)
    × (unwritten ≡ [])
Why options format name text unwritten (fault.CannotRead called e) =
    (string_bytes called ≡ name) × (error_kind e ≢ kind.OutOfMemory) × (unwritten ≡ [])
Why options format name text unwritten (fault.NotText called) =
    (string_bytes called ≡ name) × Any (λ line. ¬ IsUtf8 line) (lines text) × (unwritten ≡ [])
Why options format name text unwritten (fault.NotPrintable e) = unwritten ≡ []
Why options format name text unwritten fault.Closed = Unit {0}
Why options format name text unwritten fault.CannotWrite = Unit {0}
Why options format name text unwritten fault.OutOfMemory = Unit {0}
Why options format name text unwritten _ = ⊥

-- What is told of the input in front of a fault: of the lines of these entries, and perhaps of the
-- one that the fault is at. Nothing is said where memory is out, or a write fails; and where a
-- strict run refuses what would be told, that is the fault.
abbrev pub TellsBefore : Format → List ℕ → List Tree → NotesView → CommandError → Type 0
TellsBefore format text entries kept (fault.Input called e) =
    IsOutOfMemory e ⊎ TellsLines format text entries kept
TellsBefore format text entries kept (fault.CannotRead called e) =
    TellsLines format text entries kept
TellsBefore format text entries kept (fault.NotText called) = TellsLines format text entries kept
TellsBefore format text entries kept (fault.NotPrintable e) = TellsLines format text entries kept
TellsBefore format text entries kept _ = Unit {0}

-- the same in each format: nothing is ever told of lines that are no JSON
abbrev pub TellsPart : Format → List ℕ → List Tree → NotesView → CommandError → Type 0
TellsPart Lines text entries kept e = kept ≡ none_kept
TellsPart format text entries kept e = TellsBefore format text entries kept e

-- the first entries that a text lists are asked, of the lines that have ended, and what is printed
-- of their hits is written, or a first part of it; this is kept of what is told of them
pub record AsksPart (format : Format) (name : List ℕ) (options : Options) (selector : Syntax)
    (before : ℕ) (kept : NotesView) (unread left out_before out_after : Option (List ℕ)) (e : CommandError)
    : Type 0 where
  pub text : List ℕ
  pub part : List ℕ
  pub entries : List Tree
  pub after : ℕ
  pub written : List ℕ
  pub unwritten : List ℕ
  pub read : Consumes unread left text
  pub of_text : IsEndedPart left text part
  pub list : BeginsListIn format left part entries
  pub counted : AreCounted options selector before after entries (written ++ unwritten)
  pub why : Why options format name part unwritten e
  pub tells : TellsPart format part entries kept e
  pub prints : Appends out_before out_after written

-- ---- elements of JSON

-- The elements of an input whose bytes are known are asked: all, or, of their lines, as many as have
-- enough hits. Nothing is said of an input whose bytes aren't known.
abbrev pub AsksElements : Format → Options → Options → Syntax → Syntax → ℕ → ℕ → NotesView
    → Option (List ℕ) → Option (List ℕ) → Option (List ℕ) → Option (List ℕ) → Type 0
AsksElements format options next_options selector next_selector before after kept unread left
    out_before out_after =
    (text : List ℕ) → unread ≡ Some text →
    (next_options ≡ options) × (next_selector ≡ selector)
    × (AsksInput format options selector before after kept unread left out_before out_after
    ⊎ (behind : Option (List ℕ)) × AsksFirst format options selector before after
    (Some (asked_lines format text)) behind out_before out_after)

-- the same where it stops at a fault: the first of their lines are asked
abbrev pub AsksElementsPart : Format → List ℕ → Options → Syntax → ℕ → NotesView
    → Option (List ℕ) → Option (List ℕ) → Option (List ℕ) → CommandError → Type 0
AsksElementsPart format name options selector before kept unread out_before out_after e =
    (text : List ℕ) → unread ≡ Some text →
    (behind : Option (List ℕ)) × AsksPart format name options selector before kept
    (Some (asked_lines format text)) behind out_before out_after e

-- ---- faults of a stream

-- the fault of the input that is called so, where a stream of its entries has this one
abbrev pub IsStreamError : {L : Type 0} → (L → LibraryError → Type 0) → List ℕ
    → StreamError (ListError L LinesError) → CommandError → Type 0
IsStreamError converts name (stream.CannotRead error) e =
    (called : String Global) × (string_bytes called ≡ name) × (e ≡ fault.CannotRead called error)
    × (error_kind error ≢ kind.OutOfMemory)
IsStreamError converts name stream.NotText e =
    (called : String Global) × (string_bytes called ≡ name) × (e ≡ fault.NotText called)
IsStreamError converts name (stream.Refused (Line line)) e =
    (called : String Global) × (error : LibraryError) × (string_bytes called ≡ name)
    × converts line error × (e ≡ fault.Input called error)
IsStreamError converts name (stream.Refused (Entry error)) e = e ≡ fault.NotPrintable error
IsStreamError converts name (stream.CannotWrite write.Closed) e = e ≡ fault.Closed
IsStreamError converts name (stream.CannotWrite write.CannotWrite) e = e ≡ fault.CannotWrite
IsStreamError converts name stream.OutOfMemory e = e ≡ fault.OutOfMemory
