-- The entries that a text in lines lists.
use Rattle.std.specs.Prelude.{◌≡◌, ◌⊎◌, ℕ, List, [], ◌++◌, Option, Some, None, Ok, length}
use Rattle.std.specs.Io.KnownBytes.{IsAtEnd}
use Rattle.std.specs.Str.Lines.{lines}
use Rattle.hayagriva.specs.Tree.{Tree, trees}
use Rattle.haya_line_library.specs.Chain.{LastOf, Taken, TakesLine}
use Rattle.haya_line_library.specs.Input.{rows_of_all, rows_read}
use Rattle.haya_line_library.specs.Opened.{Opened}
use Rattle.haya_line_library.specs.TextReading.{FaultInLine, FaultInText}
use Rattle.haya_line_library.specs.declared.error.InputError.{InputError}
use Rattle.haya_line_library.specs.declared.error.InputError.TheVariants.{OutOfMemory}
use Rattle.haya_entry_stream.specs.declared.error.ListError.{ListError}
use Rattle.haya_entry_stream.specs.declared.error.ListError.TheVariants.{Line, Entry}

-- the entries that a text in lines lists, in order, repeated keys and all: its rows are theirs
abbrev pub IsListOf : List ℕ → List Tree → Type 0
IsListOf text entries = rows_read 1 0 (lines text) ≡ Ok (rows_of_all 0 (trees entries))

-- a first part of the lines of a text closes these entries, and leaves others open
pub record ClosesFirst (text : List ℕ) (entries : List Tree) : Type 0 where
  pub first : List (List ℕ)
  pub more : List (List ℕ)
  pub open_entries : List Tree
  pub parts : lines text ≡ first ++ more
  pub taken : Taken first entries open_entries

-- these are the first entries that a text lists, or all where the input has ended: before that
-- the entries that are open aren't whole
abbrev pub BeginsList : Option (List ℕ) → List ℕ → List Tree → Type 0
BeginsList left text entries =
    ClosesFirst text entries ⊎ (IsAtEnd left × IsListOf text entries)

-- the fault of the first line that has one, or out of memory
abbrev pub IsFaultOf : List ℕ → InputError → Type 0
IsFaultOf text e = FaultInText (rows_read 1 0 (lines text)) e

-- ---- a turn of one who reads lines

-- a line, or the end, for which None stands, behind a chain of open entries
abbrev pub TakesTurn : Option (List ℕ) → List Tree → Opened → Type 0
TakesTurn (Some line) chain now = TakesLine line chain now
TakesTurn None chain now = LastOf chain now

-- the entry that is closed is answered, if there is one
abbrev pub AnswersClosed : {S : Type 0} → (S → Tree → List ℕ → S → Type 0) → S → Option Tree
    → List ℕ → S → Type 0
AnswersClosed answers s None printed t = (printed ≡ []) × (t ≡ s)
AnswersClosed answers s (Some entry) printed t = answers s entry printed t

-- a turn is taken, and the entry that it closes answered
pub record AnswersTurn {S : Type 0} (answers : S → Tree → List ℕ → S → Type 0) (chain : List Tree)
    (s : S) (turn : Option (List ℕ)) (printed : List ℕ) (now : Opened) (t : S) : Type 0 where
  pub takes : TakesTurn turn chain now
  pub closed : AnswersClosed answers s now.closed printed t

-- a line has a fault; the end has none
abbrev pub FaultInTurn : ℕ → List Tree → Option (List ℕ) → InputError → Type 0
FaultInTurn number chain (Some line) e = FaultInLine number (length chain) line e
FaultInTurn number chain None e = e ≡ OutOfMemory

-- the entry that a turn closes is refused
pub record RefusesClosed {S E : Type 0} (refuses : S → Tree → E → Type 0) (chain : List Tree)
    (s : S) (turn : Option (List ℕ)) (e : E) : Type 0 where
  pub now : Opened
  pub entry : Tree
  pub takes : TakesTurn turn chain now
  pub closed : now.closed ≡ Some entry
  pub refused : refuses s entry e

-- why a turn isn't answered, and the answerer that this leaves
abbrev pub RefusesTurn : {S E : Type 0} → (S → Tree → E → Type 0) → ℕ → List Tree → S
    → Option (List ℕ) → ListError InputError E → S → Type 0
RefusesTurn refuses number chain s turn (Line e) t = FaultInTurn number chain turn e × (t ≡ s)
RefusesTurn refuses number chain s turn (Entry e) t = RefusesClosed refuses chain s turn e
