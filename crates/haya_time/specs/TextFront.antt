-- White space and signs at the front of a text.
use Rattle.std.specs.Prelude.{◌≡◌, ℕ, ◌==◌, Bool, true, false, List, [], ◌∷◌, ◌++◌, if◌then◌else◌, Option, Some, None}
use Rattle.std.specs.Char.{is_whitespace}
use Rattle.std.specs.List.{list_all}
use Rattle.std.specs.Str.{skip_leading_whitespace}

-- no characters
abbrev pub is_empty : List ℕ → Bool
is_empty [] = true
is_empty (c ∷ cs) = false

-- white space and nothing else
abbrev pub IsBlank : List ℕ → Type 0
IsBlank cs = list_all is_whitespace cs ≡ true

-- the text begins with this part, perhaps behind white space, and goes on with the rest
pub record BeginsWith (part text rest : List ℕ) : Type 0 where
  pub blank : List ℕ
  pub white : IsBlank blank
  pub joined : text ≡ blank ++ (part ++ rest)

-- what follows the sign, where the text begins with it
abbrev pub behind_first : ℕ → List ℕ → Option (List ℕ)
behind_first sign [] = None
behind_first sign (c ∷ cs) = if c == sign then Some cs else None

-- the same, where white space may precede the sign
abbrev pub behind : ℕ → List ℕ → Option (List ℕ)
behind sign text = behind_first sign (skip_leading_whitespace text)
