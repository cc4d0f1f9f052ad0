-- How a key is shown in a line, so that no sign of the line is in it.
use Rattle.std.specs.Prelude.{◌≡◌, ◌≢◌, ℕ, List, [], ◌∷◌, ◌++◌, ◌==◌, All, codes, flat_map, if◌then◌else◌}
use Rattle.haya_lines.specs.Signs.{tab, line_feed}
use Rattle.haya_hits.specs.declared.shown.Show.{Show}
use Rattle.haya_hits.specs.declared.shown.Show.TheVariants.{Raw, Escaped}

abbrev pub carriage_return : ℕ
carriage_return = 13

abbrev pub backslash : ℕ
backslash = 92

-- A tab, a line feed, a carriage return and a backslash as a backslash and `t`, `n`, `r` and a
-- backslash; any other byte as it is.
abbrev pub shown_byte : ℕ → List ℕ
shown_byte b =
    if b == tab then codes "\\t" else (
    if b == line_feed then codes "\\n" else (
    if b == carriage_return then codes "\\r" else (
    if b == backslash then codes "\\\\" else b ∷ [])))

-- a text, byte by byte
abbrev pub shown_key : List ℕ → List ℕ
shown_key text = flat_map shown_byte text

-- a text as it is, or as it is shown
abbrev pub shown_as : Show → List ℕ → List ℕ
shown_as Raw text = text
shown_as Escaped text = shown_key text

-- the last byte is a line feed, and no other is
pub record IsOneLine (line : List ℕ) : Type 0 where
  pub before : List ℕ
  pub ends : line ≡ before ++ line_feed ∷ []
  pub no_other : All (λ b. b ≢ line_feed) before
