-- The entries of a text of which each line says one.
use Rattle.std.specs.Prelude.{◌≡◌, ◌≢◌, ◌≤◌, ◌==◌, ℕ, ◌+◌, ◌^◌, MatchBool, List, [], ◌∷◌, ◌++◌, Option, None, Some, length, map}
use Rattle.std.specs.List.{FoldsTo}
use Rattle.std.specs.Str.Lines.{lines}
use Rattle.hayagriva.specs.Tree.{Tree}
use Rattle.haya_json_elements.specs.Elements.{nonempty_lines}
use Rattle.haya_line_stream.specs.declared.error.StreamError.{StreamError}
use Rattle.haya_line_stream.specs.declared.error.StreamError.TheVariants.{CannotRead, CannotWrite, NotText, OutOfMemory, Refused}
use Rattle.haya_entry_stream.specs.declared.error.EntryError.{EntryError}
use Rattle.haya_entry_stream.specs.declared.error.EntryError.TheVariants as fault
use Rattle.haya_entry_stream.specs.declared.error.ListError.{ListError}
use Rattle.haya_entry_stream.specs.declared.error.ListError.TheVariants.{Entry, Line}

-- a reader reads these entries from lines, one from each that isn't empty
pub record ReadsLines {R : Type 0} (says : R → List ℕ → Tree → R → Type 0)
    (ls : List (List ℕ)) (entries : List Tree) (before after : R) : Type 0 where
  pub parts : List (List ℕ × Tree)
  pub of_lines : map (λ p. p.0) parts ≡ nonempty_lines ls
  pub of_entries : map (λ p. p.1) parts ≡ entries
  pub run : FoldsTo (λ p part q. says p part.0 part.1 q) before parts after

-- the same from a first part of the lines of a text, or from all
pub record ReadsFirst {R : Type 0} (says : R → List ℕ → Tree → R → Type 0) (text : List ℕ)
    (entries : List Tree) (before after : R) : Type 0 where
  pub first : List (List ℕ)
  pub more : List (List ℕ)
  pub parts : lines text ≡ first ++ more
  pub reads : ReadsLines says first entries before after

-- the first line that says no entry, its number, and why the reader refuses it there
pub record FirstFault {R E : Type 0} (says : R → List ℕ → Tree → R → Type 0)
    (refuses : R → List ℕ → E → Type 0) (before : R) (text : List ℕ) (number : ℕ) (e : E)
    : Type 0 where
  pub first : List (List ℕ)
  pub line : List ℕ
  pub more : List (List ℕ)
  pub entries : List Tree
  pub after : R
  pub parts : lines text ≡ first ++ line ∷ more
  pub reads : ReadsLines says first entries before after
  pub count : number ≡ length first + 1
  pub some : length line ≢ 0
  pub why : refuses after line e

-- what a fault says of a text
abbrev pub IsFaultOf : {R E : Type 0} → (R → List ℕ → Tree → R → Type 0)
    → (R → List ℕ → E → Type 0) → R → List ℕ → EntryError E → Type 0
IsFaultOf says refuses before text (fault.Line number e) =
    FirstFault says refuses before text number e
IsFaultOf says refuses before text fault.TooMany = 2 ^ 64 ≤ length (lines text)

-- ---- what is left of a reader

-- this holds of the first of some lines
abbrev pub AtNext : (List ℕ → Type 0) → List (List ℕ) → Type 0
AtNext Holds [] = ⊥
AtNext Holds (line ∷ more) = Holds line

-- How a reader r is left at a fault that stops in front of these lines: as it was, or as it leaves
-- itself where it reads the first of them, whether that says an entry, which is refused, or none.
-- Nothing is said where a write fails or memory is out.
abbrev pub LeavesNext : {R L E : Type 0} → (R → List ℕ → Tree → R → Type 0)
    → (R → List ℕ → L → R → Type 0) → R → List (List ℕ) → R
    → StreamError (ListError (EntryError L) E) → Type 0
LeavesNext says leaves r more q (CannotRead e) = q ≡ r
LeavesNext says leaves r more q NotText = q ≡ r
LeavesNext says leaves r more q (Refused (Line (fault.Line at e))) =
    AtNext (λ line. leaves r line e q) more
LeavesNext says leaves r more q (Refused (Line fault.TooMany)) = q ≡ r
LeavesNext says leaves r more q (Refused (Entry e)) =
    AtNext (λ line. (length line ≢ 0) × (entry : Tree) × says r line entry q) more
LeavesNext says leaves r more q (CannotWrite e) = Unit {0}
LeavesNext says leaves r more q OutOfMemory = Unit {0}

-- a reader q is left where these entries are read from the first lines of a text
pub record LeavesReader {R L E : Type 0} (says : R → List ℕ → Tree → R → Type 0)
    (leaves : R → List ℕ → L → R → Type 0) (before q : R) (text : List ℕ) (entries : List Tree)
    (fault : StreamError (ListError (EntryError L) E)) : Type 0 where
  pub first : List (List ℕ)
  pub more : List (List ℕ)
  pub after : R
  pub parts : lines text ≡ first ++ more
  pub reads : ReadsLines says first entries before after
  pub next : LeavesNext says leaves after more q fault

-- ---- a turn of one who reads lines

-- an empty line is passed over; the entry that another says is answered
abbrev pub AnswersLine : {R S : Type 0} → (R → List ℕ → Tree → R → Type 0)
    → (S → Tree → List ℕ → S → Type 0) → R → S → List ℕ → List ℕ → R → S → Type 0
AnswersLine says answers r s line printed q t =
    MatchBool (length line == 0) ((printed ≡ []) × (q ≡ r) × (t ≡ s))
    ((entry : Tree) × says r line entry q × answers s entry printed t)

-- a line is counted; the end, for which None stands, leaves nothing to answer
abbrev pub AnswersTurn : {R S : Type 0} → (R → List ℕ → Tree → R → Type 0)
    → (S → Tree → List ℕ → S → Type 0) → ℕ → R → S → Option (List ℕ) → List ℕ → ℕ → R → S → Type 0
AnswersTurn says answers number r s (Some line) printed next q t =
    (next ≡ number + 1) × AnswersLine says answers r s line printed q t
AnswersTurn says answers number r s None printed next q t = (printed ≡ []) × (q ≡ r) × (t ≡ s)

-- the line with this number says no entry
pub record FaultInLine {E : Type 0} (refuses : List ℕ → E → Type 0) (number : ℕ) (line : List ℕ)
    (at : ℕ) (e : E) : Type 0 where
  pub count : at ≡ number
  pub some : length line ≢ 0
  pub why : refuses line e

abbrev pub FaultInTurn : {E : Type 0} → (List ℕ → E → Type 0) → ℕ → Option (List ℕ)
    → EntryError E → Type 0
FaultInTurn refuses number (Some line) (fault.Line at e) = FaultInLine refuses number line at e
FaultInTurn refuses number (Some line) fault.TooMany = number ≡ 2 ^ 64
FaultInTurn refuses number None e = ⊥

-- the state that this leaves of the reader
abbrev pub LeavesTurn : {R L : Type 0} → (R → List ℕ → L → R → Type 0) → R → Option (List ℕ)
    → EntryError L → R → Type 0
LeavesTurn leaves r (Some line) (fault.Line at e) q = leaves r line e q
LeavesTurn leaves r (Some line) fault.TooMany q = q ≡ r
LeavesTurn leaves r None e q = ⊥

-- the entry that a turn's line says is refused
abbrev pub RefusesEntry : {R S E : Type 0} → (R → List ℕ → Tree → R → Type 0)
    → (S → Tree → E → Type 0) → R → S → Option (List ℕ) → E → R → Type 0
RefusesEntry says refuses r s (Some line) e q =
    (length line ≢ 0) × (entry : Tree) × says r line entry q × refuses s entry e
RefusesEntry says refuses r s None e q = ⊥

-- why a turn isn't answered, and the reader and the answerer that this leaves
abbrev pub RefusesTurn : {R S L E : Type 0} → (R → List ℕ → Tree → R → Type 0)
    → (R → List ℕ → L → Type 0) → (R → List ℕ → L → R → Type 0) → (S → Tree → E → Type 0)
    → ℕ → R → S → Option (List ℕ) → ListError (EntryError L) E → R → S → Type 0
RefusesTurn says refuses_line leaves refuses number r s turn (Line e) q t =
    FaultInTurn (refuses_line r) number turn e × LeavesTurn leaves r turn e q × (t ≡ s)
RefusesTurn says refuses_line leaves refuses number r s turn (Entry e) q t =
    RefusesEntry says refuses r s turn e q
