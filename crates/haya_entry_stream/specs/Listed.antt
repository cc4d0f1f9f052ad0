-- The entries of a list, answered one after another.
use Rattle.std.specs.Prelude.{◌≡◌, ℕ, Any, Bool, true, false, List, [], ◌++◌, Option, map}
use Rattle.std.specs.List.{flat_map, FoldsTo}
use Rattle.std.specs.Io.KnownBytes.{Appends, Consumes, IsAtEnd}
use Rattle.std.specs.Str.{IsUtf8}
use Rattle.std.specs.Str.Lines.{lines}
use Rattle.hayagriva.specs.Tree.{Tree}
use Rattle.haya_line_stream.specs.Streamed.{IsEndedPart}
use Rattle.haya_line_stream.specs.declared.error.StreamError.{StreamError}
use Rattle.haya_line_stream.specs.declared.error.StreamError.TheVariants.{CannotRead, CannotWrite, NotText, OutOfMemory, Refused}
use Rattle.haya_entry_stream.specs.declared.error.ListError.{ListError}
use Rattle.haya_entry_stream.specs.declared.error.ListError.TheVariants.{Line, Entry}

-- ---- entries

-- entries, and what is printed of each
abbrev pub Replies : Type 0
Replies = List (Tree × List ℕ)

abbrev pub entries_of : Replies → List Tree
entries_of replies = map (λ p. p.0) replies

abbrev pub printed_of : Replies → List ℕ
printed_of replies = flat_map (λ p. p.1) replies

-- each entry is answered, by one who isn't done
abbrev pub Run : {S : Type 0} → (S → Tree → List ℕ → S → Type 0) → (S → Bool) → S → Replies → S
    → Type 0
Run answers is_done s replies t =
    FoldsTo (λ p reply q. (is_done p ≡ false) × answers p reply.0 reply.1 q) s replies t

-- ---- an input

-- all input that was left is a text, and each entry that it lists is answered
pub record AnswersList {S : Type 0} (IsList : List ℕ → List Tree → Type 0)
    (answers : S → Tree → List ℕ → S → Type 0) (is_done : S → Bool)
    (s t : S) (unread left before after : Option (List ℕ)) : Type 0 where
  pub text : List ℕ
  pub replies : Replies
  pub read : Consumes unread left text
  pub at_end : IsAtEnd left
  pub list : IsList text (entries_of replies)
  pub run : Run answers is_done s replies t
  pub prints : Appends before after (printed_of replies)

-- A first part of the input is read, and entries of those of its lines that have ended are
-- answered, which are enough. What begins a list may depend on what is left of the input.
pub record AnswersEnough {S : Type 0}
    (BeginsList : Option (List ℕ) → List ℕ → List Tree → Type 0)
    (answers : S → Tree → List ℕ → S → Type 0)
    (is_done : S → Bool) (s t : S) (unread left before after : Option (List ℕ)) : Type 0 where
  pub text : List ℕ
  pub part : List ℕ
  pub replies : Replies
  pub read : Consumes unread left text
  pub of_text : IsEndedPart left text part
  pub list : BeginsList left part (entries_of replies)
  pub run : Run answers is_done s replies t
  pub enough : is_done t ≡ true
  pub prints : Appends before after (printed_of replies)

-- what a fault says of a text, and of what isn't written: of a line, as `IsFault` has it, or of an
-- entry, as `IsRefusal` has it
abbrev pub Why : {L E : Type 0} → (List ℕ → L → Type 0) → (E → Type 0) → List ℕ → List ℕ
    → StreamError (ListError L E) → Type 0
Why IsFault IsRefusal text unwritten (CannotWrite e) = Unit {0}
Why IsFault IsRefusal text unwritten (Refused (Line e)) = IsFault text e × (unwritten ≡ [])
Why IsFault IsRefusal text unwritten (Refused (Entry e)) = IsRefusal e × (unwritten ≡ [])
Why IsFault IsRefusal text unwritten (CannotRead e) = unwritten ≡ []
Why IsFault IsRefusal text unwritten NotText =
    Any (λ line. ¬ IsUtf8 line) (lines text) × (unwritten ≡ [])
Why IsFault IsRefusal text unwritten OutOfMemory = unwritten ≡ []

-- The answerer that is left at a fault is as the entries leave it that are answered. Nothing is said
-- of it where it refuses one itself, where a write fails or memory is out.
abbrev pub IsLeftAs : {S L E : Type 0} → S → S → StreamError (ListError L E) → Type 0
IsLeftAs last t (CannotRead e) = t ≡ last
IsLeftAs last t NotText = t ≡ last
IsLeftAs last t (Refused (Line e)) = t ≡ last
IsLeftAs last t (Refused (Entry e)) = Unit {0}
IsLeftAs last t (CannotWrite e) = Unit {0}
IsLeftAs last t OutOfMemory = Unit {0}

-- A first part of the input is read, entries of those of its lines that have ended are answered,
-- and there it stops: what is printed of them is written, but where the writer fails. What is left
-- are an answerer t and what `Leaves` says of the part, of its entries and of the fault.
pub record AnswersPart {S L E : Type 0}
    (BeginsList : Option (List ℕ) → List ℕ → List Tree → Type 0)
    (IsFault : List ℕ → L → Type 0)
    (Leaves : List ℕ → List Tree → StreamError (ListError L E) → Type 0)
    (answers : S → Tree → List ℕ → S → Type 0)
    (is_done : S → Bool) (refuses : S → Tree → E → Type 0) (s t : S)
    (unread left before after : Option (List ℕ)) (fault : StreamError (ListError L E))
    : Type 0 where
  pub text : List ℕ
  pub part : List ℕ
  pub replies : Replies
  pub last : S
  pub written : List ℕ
  pub unwritten : List ℕ
  pub read : Consumes unread left text
  pub of_text : IsEndedPart left text part
  pub list : BeginsList left part (entries_of replies)
  pub run : Run answers is_done s replies last
  pub parts : printed_of replies ≡ written ++ unwritten
  pub why : Why IsFault (λ e. (entry : Tree) × refuses last entry e) part unwritten fault
  pub answerer : IsLeftAs last t fault
  pub leaves : Leaves part (entries_of replies) fault
  pub prints : Appends before after written
