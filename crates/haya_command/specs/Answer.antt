-- What a library answers to what is asked.
use Rattle.std.specs.Prelude.{◌≡◌, ◌⊎◌, ◌<◌, ◌↔◌, ℕ, Bool, IfSome, IsTrue, MatchBool, List, [], ◌∷◌, ◌++◌, Option, None, Some, decimal, length, string_bytes}
use Rattle.std.specs.Str.{chars}
use Rattle.hayagriva.specs.Fault as selector
use Rattle.hayagriva.specs.Query.{AreHits}
use Rattle.hayagriva.specs.Reading.{TextFails, TextReads}
use Rattle.hayagriva.specs.Syntax.{Syntax}
use Rattle.hayagriva.specs.Tree.{Tree}
use Rattle.hayagriva.specs.declared.query.Hit.{Hit}
use Rattle.haya_asked.specs.Asked.{AreAsked}
use Rattle.haya_asked.specs.Tables.{columns_text}
use Rattle.haya_asked.specs.declared.columns.Columns.{Columns}
use Rattle.haya_lines.specs.Signs.{line_feed}
use Rattle.haya_printing.specs.declared.error.LinesError.TheVariants as lines
use Rattle.haya_command.specs.Picks.{wanted}
use Rattle.haya_command.specs.Printed.{IsTextOf}
use Rattle.haya_command.specs.declared.error.CommandError.{CommandError}
use Rattle.haya_command.specs.declared.error.CommandError.TheVariants as fault
use Rattle.haya_command.specs.declared.form.Form.TheVariants.{Lines}
use Rattle.haya_command.specs.declared.options.Options.{Options}

-- What is printed of hits:
--   quiet               nothing
--   count, not quiet    their number, and a line feed
--   neither             their table where one is asked for, otherwise their text in the form
abbrev pub IsWritten : Options → Option Columns → List Hit → List ℕ → Type 0
IsWritten options None hits text = IsTextOf options.strict options.to hits text
IsWritten options (Some columns) hits text = text ≡ columns_text columns hits

abbrev pub IsShown : Options → List Hit → List ℕ → Type 0
IsShown options hits text =
    MatchBool options.quiet (text ≡ [])
    (MatchBool options.count (text ≡ decimal (length hits) ++ line_feed ∷ [])
    (IsWritten options options.columns hits text))

-- the answer of a library: the selector's text is read, and of its hits, or, inverted, of those of
-- its opposite, what is asked for is printed; it is found where there is one
pub record IsAnswer (options : Options) (library : List Tree) (text : List ℕ) (found : Bool)
    : Type 0 where
  pub selector : Syntax
  pub hits : List Hit
  pub asked : List Hit
  pub reads : TextReads (chars (string_bytes options.selector)) selector
  pub picks : AreHits (wanted options.invert selector) library hits
  pub asks : AreAsked options.questions hits asked
  pub shows : IsShown options asked text
  pub found_one : IsTrue found ↔ (0 < length asked)

-- What a fault says where nothing is answered: the selector's text is none, or, in a strict run, a
-- hit can't be printed in lines. Nothing is said where memory is out.
abbrev pub IsAnswerFault : Options → CommandError → Type 0
IsAnswerFault options (fault.Selector e) =
    IfSome (selector.fault e) (TextFails (chars (string_bytes options.selector)))
IsAnswerFault options (fault.NotPrintable e) =
    (e ≡ lines.OutOfMemory) ⊎ (IsTrue options.strict × (options.to ≡ Lines))
IsAnswerFault options fault.OutOfMemory = Unit {0}
IsAnswerFault options _ = ⊥
