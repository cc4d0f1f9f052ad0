-- What is printed over a library's text.
use Rattle.std.specs.Prelude.{ℕ, List}
use Rattle.std.specs.Str.{chars}
use Rattle.hayagriva.specs.Reading.{TextReads}
use Rattle.hayagriva.specs.Syntax.{Syntax}
use Rattle.hayagriva.specs.Tree.{Tree}
use Rattle.haya_line_library.specs.Input.{Describes}
use Rattle.haya_hits.specs.Line.{AreLinesAt}

-- what a run prints whose word reads as a selector and whose input is this text: the lines of the
-- entries of its library where the selector holds
pub record Shows (word text printed : List ℕ) : Type 0 where
  pub library : List Tree
  pub selector : Syntax
  pub describes : Describes text library
  pub reads : TextReads (chars word) selector
  pub shows : AreLinesAt selector library printed
