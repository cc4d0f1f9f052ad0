-- What is printed of an input, as it is read.
use Rattle.std.specs.Prelude.{◌≡◌, ◌⊎◌, ◌<◌, ◌≤◌, ℕ, Bool, true, List, [], ◌++◌, Option, length}
use Rattle.std.specs.Io.KnownBytes.{Appends, Consumes, IsAtEnd}
use Rattle.haya_line_stream.specs.Turns.{AreWholeLines, HasNoFeed, ended_count}
use Rattle.haya_line_stream.specs.Answered.{Answers, StopsFirst, Takes}
use Rattle.haya_line_stream.specs.declared.error.StreamError.{StreamError}
use Rattle.haya_line_stream.specs.declared.error.StreamError.TheVariants.{CannotRead, CannotWrite, NotText, OutOfMemory, Refused}

-- the part of a text that was read whose lines have ended: all of it where the input has,
-- otherwise its whole lines
abbrev pub IsEndedPart : Option (List ℕ) → List ℕ → List ℕ → Type 0
IsEndedPart left text part =
    (IsAtEnd left × (part ≡ text))
    ⊎ ((rest : List ℕ) × (text ≡ part ++ rest) × AreWholeLines part × HasNoFeed rest)

-- all input that was left is a text, each line of it is answered, and then its end
pub record AnswersAll {S : Type 0} (answers : S → Option (List ℕ) → List ℕ → S → Type 0) (s t : S)
    (unread left before after : Option (List ℕ)) : Type 0 where
  pub text : List ℕ
  pub printed : List ℕ
  pub read : Consumes unread left text
  pub at_end : IsAtEnd left
  pub answers_all : Answers answers text [] s t printed
  pub prints : Appends before after printed

-- a first part of the input is read, and lines of it are answered, which are enough; each of them
-- has ended, or the input has
pub record AnswersEnough {S : Type 0} (answers : S → Option (List ℕ) → List ℕ → S → Type 0)
    (is_done : S → Bool) (s t : S) (unread left before after : Option (List ℕ)) : Type 0 where
  pub text : List ℕ
  pub later : List (Option (List ℕ))
  pub printed : List ℕ
  pub read : Consumes unread left text
  pub first : Answers answers text later s t printed
  pub ended : IsAtEnd left ⊎ (length first.parts ≤ ended_count text)
  pub enough : is_done t ≡ true
  pub prints : Appends before after printed

-- Why no more than this is answered of what was read, and written of that, and the state t that is
-- left. Nothing is said of the state where a write fails or memory is out.
abbrev pub Why : {S E : Type 0} → (S → Option (List ℕ) → E → S → Type 0) → S
    → List (Option (List ℕ)) → List ℕ → S → StreamError E → Type 0
Why refuses last later unwritten t (CannotRead e) =
    (length later ≤ 2) × (unwritten ≡ []) × (t ≡ last)
Why refuses last later unwritten t (CannotWrite e) = Unit {0}
Why refuses last later unwritten t NotText =
    StopsFirst refuses last later t NotText × (unwritten ≡ [])
Why refuses last later unwritten t (Refused e) =
    StopsFirst refuses last later t (Refused e) × (unwritten ≡ [])
Why refuses last later unwritten t OutOfMemory = unwritten ≡ []

-- so many lines of a text are answered, each of which has ended, as has the one that is refused;
-- where a read fails, each that has ended is answered
abbrev pub HaveEnded : {E : Type 0} → List ℕ → ℕ → StreamError E → Type 0
HaveEnded text answered (CannotRead e) = answered ≡ ended_count text
HaveEnded text answered (CannotWrite e) = answered ≤ ended_count text
HaveEnded text answered NotText = answered < ended_count text
HaveEnded text answered (Refused e) = answered < ended_count text
HaveEnded text answered OutOfMemory = answered ≤ ended_count text

-- lines of a text are answered, what is printed of them is written, and here it stops, in a state t
pub record Writes {S E : Type 0} (answers : S → Option (List ℕ) → List ℕ → S → Type 0)
    (refuses : S → Option (List ℕ) → E → S → Type 0) (text : List ℕ) (s t : S)
    (before after : Option (List ℕ)) (fault : StreamError E) : Type 0 where
  pub later : List (Option (List ℕ))
  pub last : S
  pub written : List ℕ
  pub unwritten : List ℕ
  pub first : Answers answers text later s last (written ++ unwritten)
  pub why : Why refuses last later unwritten t fault
  pub prints : Appends before after written

-- the input that was read is a text, of which lines are answered; there it stops, in a state t. Each
-- of them has ended, or the input has
pub record AnswersPart {S E : Type 0} (answers : S → Option (List ℕ) → List ℕ → S → Type 0)
    (refuses : S → Option (List ℕ) → E → S → Type 0) (s t : S)
    (unread left before after : Option (List ℕ)) (fault : StreamError E) : Type 0 where
  pub text : List ℕ
  pub read : Consumes unread left text
  pub writes : Writes answers refuses text s t before after fault
  pub ended : IsAtEnd left ⊎ HaveEnded text (length writes.first.parts) fault

-- the lines of a text are printed but for what is held, which has no end yet; or enough of them are
pub record Moves {S : Type 0} (answers : S → Option (List ℕ) → List ℕ → S → Type 0)
    (is_done : S → Bool) (text held : List ℕ) (s t : S) (before after : Option (List ℕ))
    : Type 0 where
  pub rest : List ℕ
  pub printed : List ℕ
  pub takes : Takes answers text rest s t printed
  pub left : (is_done t ≡ true) ⊎ ((rest ≡ held) × HasNoFeed rest)
  pub prints : Appends before after printed
