-- A text, divided into its lines.
use Rattle.std.specs.Prelude.{◌≡◌, ◌<◌, ◌≤◌, ℕ, List, ◌++◌, length, slice_index, take}
use Rattle.std.specs.Str.Lines.{lines}
use Rattle.haya_line_stream.specs.Turns.{HasNoFeed}
use Rattle.haya_parts.specs.declared.line_parts.LineParts.{LineParts}

-- the first line feed is at this place
pub record IsLineEnd (bytes : List ℕ) (at : ℕ) : Type 0 where
  pub within : at < length bytes
  pub feed : slice_index bytes at ≡ 10
  pub none : HasNoFeed (take at bytes)

-- the lines of the text are these, and those of what is left, of which so many bytes have no end
pub record LinesDivide (d : LineParts) (text : List ℕ) (parts : List (List ℕ)) (rest : List ℕ)
    : Type 0 where
  pub all : lines text ≡ parts ++ lines rest
  pub within : d.looked ≤ length rest
  pub none : HasNoFeed (take d.looked rest)

-- the lines of a whole text
abbrev pub AreLines : LineParts → List ℕ → List (List ℕ) → Type 0
AreLines d text parts = parts ≡ lines text
