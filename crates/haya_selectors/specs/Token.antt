-- The tokens of a selector's text: the one cut of its characters.
use Rattle.std.specs.Prelude.{◌≡◌, ◌≢◌, ℕ, ◌==◌, ◌||◌, ◌&&◌, Bool, true, false, List, [], ◌∷◌, ◌++◌}
use Rattle.std.specs.Char.{is_whitespace, is_ascii_alphabetic, is_ascii_alphanumeric}
use Rattle.std.specs.List.{list_all}
use Rattle.haya_selectors.specs.declared.token.Sign.{Sign}
use Rattle.haya_selectors.specs.declared.token.Sign.TheVariants.{LeftBracket, RightBracket, LeftParen, RightParen, Star, Comma, Chevron, Colon, Pipe, Ampersand, ExclamationMark}

-- a sign, an identifier, or any other character
pub data Token : Type 0 where
  SignToken : Sign → Token
  Word : List ℕ → Token
  Invalid : ℕ → Token

-- the character that a sign is
abbrev pub sign_char : Sign → ℕ
sign_char LeftBracket = 91
sign_char RightBracket = 93
sign_char LeftParen = 40
sign_char RightParen = 41
sign_char Star = 42
sign_char Comma = 44
sign_char Chevron = 62
sign_char Colon = 58
sign_char Pipe = 124
sign_char Ampersand = 38
sign_char ExclamationMark = 33

-- the characters of a token
abbrev pub spelling : Token → List ℕ
spelling (SignToken s) = sign_char s ∷ []
spelling (Word w) = w
spelling (Invalid c) = c ∷ []

-- the character `-`
abbrev pub hyphen : ℕ
hyphen = 45

-- an ASCII letter or `-`
abbrev pub starts_word : ℕ → Bool
starts_word c = is_ascii_alphabetic c || c == hyphen

-- an ASCII letter, an ASCII digit or `-`
abbrev pub in_word : ℕ → Bool
in_word c = is_ascii_alphanumeric c || c == hyphen

-- whether the characters are an identifier
abbrev pub is_word : List ℕ → Bool
is_word [] = false
is_word (c ∷ cs) = starts_word c && list_all in_word cs

-- an invalid character is no white space and begins no other token
abbrev pub IsToken : Token → Type 0
IsToken (SignToken s) = Unit {0}
IsToken (Word w) = is_word w ≡ true
IsToken (Invalid c) =
    (is_whitespace c ≡ false) × (starts_word c ≡ false) × ((s : Sign) → c ≢ sign_char s)

-- no identifier is followed by a character that would make it longer
abbrev pub EndsBefore : Token → List ℕ → Type 0
EndsBefore (Word w) (c ∷ cs) = in_word c ≡ false
EndsBefore _ _ = Unit {0}

-- the text is these tokens in turn, with white space before, between and behind them
pub data AreTokens : List Token → List ℕ → Type 0 where
  no_token : (gap : List ℕ) → list_all is_whitespace gap ≡ true → AreTokens [] gap
  next_token : (gap : List ℕ) {t : Token} {ts : List Token} {rest : List ℕ} →
      list_all is_whitespace gap ≡ true → IsToken t → EndsBefore t rest → AreTokens ts rest
      → AreTokens (t ∷ ts) (gap ++ (spelling t ++ rest))

-- the token stands first, behind white space, and leaves the characters after it
pub record Takes (t : Token) (before after : List ℕ) : Type 0 where
  pub gap : List ℕ
  pub blank : list_all is_whitespace gap ≡ true
  pub is : IsToken t
  pub ends : EndsBefore t after
  pub parts : before ≡ gap ++ (spelling t ++ after)

-- the characters end, and not in white space
pub record EndsInNoSpace (cs : List ℕ) : Type 0 where
  pub front : List ℕ
  pub last : ℕ
  pub parts : cs ≡ front ++ last ∷ []
  pub no_space : is_whitespace last ≡ false

-- this sign doesn't stand first
abbrev pub BeginsNot : Sign → List Token → Type 0
BeginsNot s [] = Unit {0}
BeginsNot s (t ∷ ts) = t ≢ SignToken s

-- no identifier stands first
abbrev pub BeginsNoWord : List Token → Type 0
BeginsNoWord [] = Unit {0}
BeginsNoWord (t ∷ ts) = (w : List ℕ) → t ≢ Word w

-- no identifier with a `:` behind it stands first
abbrev pub BeginsNoName : List Token → Type 0
BeginsNoName ts = (w : List ℕ) (us : List Token) → ts ≢ Word w ∷ SignToken Colon ∷ us
