-- The program's output: a line for each entry that a selector picks.
use Rattle.std.specs.Prelude.{◌≡◌, ◌≢◌, ◌⊎◌, ℕ, List, [], ◌∷◌, ◌++◌, Option, Some, Err, filter}
use Rattle.std.specs.Io.KnownBytes.{Appends, Consumes, IsAtEnd, Keeps}
use Rattle.std.specs.Str.{IsUtf8, chars}
use Rattle.std.specs.Str.Lines.{lines}
use Rattle.hayagriva.specs.Fault.{Fault}
use Rattle.hayagriva.specs.Holds.{holds}
use Rattle.hayagriva.specs.Reading.{TextReads, TextFails}
use Rattle.hayagriva.specs.Syntax.{Syntax}
use Rattle.hayagriva.specs.Tree.{Tree}
use Rattle.haya_hits.specs.Line.{AreLines, AreLinesAt, IsLineAt}
use Rattle.haya_line_library.specs.Input.{Describes, rows_read}
use Rattle.haya_run.specs.declared.error.RunError.{RunError}
use Rattle.haya_run.specs.declared.error.RunError.TheVariants.{CannotWrite}
use Rattle.haya_lines.specs.declared.error.LineError.{LineError}

-- a run that ends well with one word: the word reads as a selector, all input that was left is
-- UTF-8 and describes a library, and what is printed behind what was there are the lines of its
-- entries where the selector holds
pub record Answers (word : List ℕ) (unread left before after : Option (List ℕ)) : Type 0 where
  pub text : List ℕ
  pub library : List Tree
  pub selector : Syntax
  pub printed : List ℕ
  pub read : Consumes unread left text
  pub ends : IsAtEnd left
  pub utf8 : IsUtf8 text
  pub describes : Describes text library
  pub reads : TextReads (chars word) selector
  pub shows : AreLinesAt selector library printed
  pub prints : Appends before after printed

-- the beginning of the line of the first of these entries
abbrev pub BeginsLineAt : Syntax → List Tree → List ℕ → Type 0
BeginsLineAt s [] piece = ⊥
BeginsLineAt s (x ∷ xs) piece = (behind : List ℕ) × IsLineAt s x (piece ++ behind)

-- what is printed at a fault: the lines of a first part of the entries of a library where a
-- selector holds, whole lines alone, but that a write that fails may have taken the beginning of
-- the next
pub record PrintsPart (s : Syntax) (library : List Tree)
    (before after : Option (List ℕ)) (fault : RunError) : Type 0 where
  pub first : List Tree
  pub rest : List Tree
  pub printed : List ℕ
  pub piece : List ℕ
  pub parts : filter (holds s) library ≡ first ++ rest
  pub shows : AreLines (IsLineAt s) first printed
  pub whole : fault ≢ CannotWrite → piece ≡ []
  pub begins : (piece ≡ []) ⊎ BeginsLineAt s rest piece
  pub prints : Appends before after (printed ++ piece)

-- a run that ends with a fault while it prints: the word reads as a selector, all input that was
-- left is UTF-8 and describes a library, and what is printed is a part of what `Answers` says
pub record AnswersPart (word : List ℕ)
    (unread left before after : Option (List ℕ)) (fault : RunError) : Type 0 where
  pub text : List ℕ
  pub library : List Tree
  pub selector : Syntax
  pub read : Consumes unread left text
  pub ends : IsAtEnd left
  pub utf8 : IsUtf8 text
  pub describes : Describes text library
  pub reads : TextReads (chars word) selector
  pub prints : PrintsPart selector library before after fault

-- what a run that ends with a fault leaves on the output: nothing more than was there, or a part
abbrev pub Stands : List ℕ → Option (List ℕ) → Option (List ℕ) → Option (List ℕ)
    → Option (List ℕ) → RunError → Type 0
Stands word unread left before after fault =
    Keeps before after ⊎ AnswersPart word unread left before after fault

-- nothing is printed where the word is no selector, and where the input that was left isn't UTF-8
-- or has a faulty line
pub record KeepsAtFault (word : List ℕ) (unread before after : Option (List ℕ)) : Type 0 where
  pub no_selector : (fault : Fault) → TextFails (chars word) fault → Keeps before after
  pub no_text : (text : List ℕ) → unread ≡ Some text → ¬ IsUtf8 text → Keeps before after
  pub faulty_line : (text : List ℕ) (fault : ℕ × LineError) → unread ≡ Some text
      → rows_read 1 0 (lines text) ≡ Err fault → Keeps before after
