-- The fully parenthesised text of a selector: types in lower case, `*`, and every other form in its
-- own parentheses.
use Rattle.std.specs.Prelude.{◌≡◌, ℕ, true, List, [], ◌∷◌, ◌++◌}
use Rattle.std.specs.List.{list_all}
use Rattle.haya_entry.specs.EntryType.{in_lower_case, type_name}
use Rattle.haya_selectors.specs.declared.token.Sign.{Sign}
use Rattle.haya_selectors.specs.declared.token.Sign.TheVariants.{LeftBracket, RightBracket, LeftParen, RightParen, Star, Comma, Chevron, Colon, Pipe, Ampersand, ExclamationMark}
use Rattle.haya_selectors.specs.Reading.{TextReads}
use Rattle.haya_selectors.specs.Syntax.{Syntax, Syntaxes, Wildcard, Entry, Neg, Binding, Attr, Alt, Multi, Ancestrage, none, more}
use Rattle.haya_selectors.specs.Token.{Token, SignToken, Word, is_word, spelling}

-- names with commas between, and the `]`, in front of rest
abbrev pub tokens_of_names : List (List ℕ) → List Token → List Token
tokens_of_names [] rest = SignToken RightBracket ∷ rest
tokens_of_names (n ∷ []) rest = Word n ∷ SignToken RightBracket ∷ rest
tokens_of_names (n ∷ names) rest = Word n ∷ SignToken Comma ∷ tokens_of_names names rest

-- the tokens of a selector, in front of rest
abbrev mutual
  pub tokens_of : Syntax → List Token → List Token
  tokens_of Wildcard rest = SignToken Star ∷ rest
  tokens_of (Entry t) rest = Word (in_lower_case (type_name t)) ∷ rest
  tokens_of (Neg s) rest =
      SignToken LeftParen ∷ SignToken ExclamationMark ∷ tokens_of s (SignToken RightParen ∷ rest)
  tokens_of (Binding n s) rest =
      SignToken LeftParen ∷ Word n ∷ SignToken Colon ∷ tokens_of s (SignToken RightParen ∷ rest)
  tokens_of (Attr s names) rest =
      SignToken LeftParen ∷
      tokens_of s (SignToken LeftBracket ∷ tokens_of_names names (SignToken RightParen ∷ rest))
  tokens_of (Alt ss) rest =
      SignToken LeftParen ∷ tokens_of_members Pipe ss (SignToken RightParen ∷ rest)
  tokens_of (Multi ss) rest =
      SignToken LeftParen ∷ tokens_of_members Ampersand ss (SignToken RightParen ∷ rest)
  tokens_of (Ancestrage l r) rest =
      SignToken LeftParen ∷
      tokens_of l (SignToken Chevron ∷ tokens_of r (SignToken RightParen ∷ rest))

  -- members with this sign between
  pub tokens_of_members : Sign → Syntaxes → List Token → List Token
  tokens_of_members sign none rest = rest
  tokens_of_members sign (more s ss) rest = tokens_of s (tokens_of_others sign ss rest)

  pub tokens_of_others : Sign → Syntaxes → List Token → List Token
  tokens_of_others sign none rest = rest
  tokens_of_others sign (more s ss) rest =
      SignToken sign ∷ tokens_of s (tokens_of_others sign ss rest)

abbrev pub AtLeastTwo : Syntaxes → Type 0
AtLeastTwo (more s (more t ss)) = Unit {0}
AtLeastTwo _ = ⊥

-- at least two members, and names that are identifiers
abbrev mutual
  pub IsSpellable : Syntax → Type 0
  IsSpellable Wildcard = Unit {0}
  IsSpellable (Entry t) = Unit {0}
  IsSpellable (Neg s) = IsSpellable s
  IsSpellable (Binding n s) = (is_word n ≡ true) × IsSpellable s
  IsSpellable (Attr s names) = (list_all is_word names ≡ true) × IsSpellable s
  IsSpellable (Alt ss) = AtLeastTwo ss × AreSpellable ss
  IsSpellable (Multi ss) = AtLeastTwo ss × AreSpellable ss
  IsSpellable (Ancestrage l r) = IsSpellable l × IsSpellable r

  pub AreSpellable : Syntaxes → Type 0
  AreSpellable none = Unit {0}
  AreSpellable (more s ss) = IsSpellable s × AreSpellable ss

-- the characters of tokens, with nothing between
abbrev pub text_of : List Token → List ℕ
text_of [] = []
text_of (t ∷ ts) = spelling t ++ text_of ts

-- a selector's text reads as it, to its end
abbrev pub ReadAgain : Type 0
ReadAgain =
    (s : Syntax) → IsSpellable s → (r : TextReads (text_of (tokens_of s [])) s) × (r.rest ≡ [])
