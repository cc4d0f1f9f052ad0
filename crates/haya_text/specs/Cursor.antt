-- A place in a text, and the characters that follow it.
use Rattle.std.specs.Prelude.{◌≡◌, ◌≢◌, ℕ, ◌+◌, Bool, List, [], ◌∷◌, ◌++◌, length, Option, MatchBool, MatchOption}
use Rattle.std.specs.Char.{encode_utf8, len_utf8}
use Rattle.std.specs.Str.{chars, encode_utf8_all}

-- how many bytes stand before it, and the characters that are left
pub record Left : Type 0 where
  pub place : ℕ
  pub rest : List ℕ

-- how many bytes the whole text has: those before the place, and the rest in UTF-8
abbrev pub text_len : Left → ℕ
text_len l = l.place + length (encode_utf8_all l.rest)

-- the character c stood first in old, and new is what is left behind it
pub record IsPast (c : ℕ) (old new : Left) : Type 0 where
  pub rest : old.rest ≡ c ∷ new.rest
  pub place : new.place ≡ old.place + len_utf8 c

-- the character c doesn't stand first
abbrev pub StartsNotWith : ℕ → List ℕ → Type 0
StartsNotWith c [] = Unit {0}
StartsNotWith c (d ∷ ds) = d ≢ c

-- the next character is taken; at the end there is none, and nothing moves
abbrev pub Eats : Option ℕ → Left → Left → Type 0
Eats next old new = MatchOption next ((old.rest ≡ []) × (new ≡ old)) (λ c. IsPast c old new)

-- the next character is taken if it is the wanted one; else nothing moves
abbrev pub EatsIf : ℕ → Bool → Left → Left → Type 0
EatsIf wanted taken old new =
    MatchBool taken (IsPast wanted old new) (StartsNotWith wanted old.rest × (new ≡ old))

-- the text is a character that meets P, and then behind
pub record IsBehind (P : ℕ → Type 0) (text behind : List ℕ) : Type 0 where
  pub first : ℕ
  pub meets : P first
  pub bytes : text ≡ encode_utf8 first ++ behind
  pub characters : chars text ≡ first ∷ chars behind
