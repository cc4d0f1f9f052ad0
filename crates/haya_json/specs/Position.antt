-- A position in a text.
use Rattle.std.specs.Prelude.{◌≡◌, ℕ, ◌+◌, ◌==◌, List, ◌++◌, fold, if◌then◌else◌}
use Rattle.std.specs.Str.{IsUtf8, chars}
use Rattle.haya_json.specs.declared.position.Position.{Position}

-- the first position of a text
abbrev pub start : Position
start = record { line = 1; column = 1 }

-- the position behind a character: a line feed begins a line
abbrev pub behind_char : Position → ℕ → Position
behind_char p c =
    if c == 10 then record { line = p.line + 1; column = 1 }
    else record { line = p.line; column = p.column + 1 }

-- the position behind characters that begin a text
abbrev pub position_behind : List ℕ → Position
position_behind cs = fold behind_char start cs

-- the position behind whole characters that begin the text
pub record IsPositionIn (text : List ℕ) (p : Position) : Type 0 where
  pub front : List ℕ
  pub rest : List ℕ
  pub parts : text ≡ front ++ rest
  pub whole : IsUtf8 front
  pub behind : p ≡ position_behind (chars front)
