-- The tokens that a reader has left, computed from the characters. They are the cut of these
-- characters.
use Rattle.std.specs.Prelude.{ℕ, List, [], ◌∷◌, ◌++◌, ◌==◌, Option, Some, None, if◌then◌else◌, find}
use Rattle.std.specs.Char.{is_whitespace}
use Rattle.haya_selectors.specs.declared.token.Sign.{Sign}
use Rattle.haya_selectors.specs.declared.token.Sign.TheVariants.{LeftBracket, RightBracket, LeftParen, RightParen, Star, Comma, Chevron, Colon, Pipe, Ampersand, ExclamationMark}
use Rattle.haya_selectors.specs.declared.token.Lexeme.{Lexeme}
use Rattle.haya_selectors.specs.declared.token.Lexeme.TheVariants as lexeme
use Rattle.haya_selectors.specs.Token.{Token, SignToken, Word, Invalid, starts_word, in_word, sign_char}

abbrev pub all_signs : List Sign
all_signs =
    LeftBracket ∷ RightBracket ∷ LeftParen ∷ RightParen ∷ Star ∷ Comma ∷ Chevron ∷ Colon ∷ Pipe ∷
    Ampersand ∷ ExclamationMark ∷ []

-- the sign that a character is
abbrev pub sign_of : ℕ → Option Sign
sign_of c = find (λ s. c == sign_char s) all_signs

abbrev pub sign_or_invalid : ℕ → Option Sign → Token
sign_or_invalid c None = Invalid c
sign_or_invalid c (Some s) = SignToken s

-- the tokens of the characters, behind the identifier that was begun, if there is one
unfoldable pub cut : Option (List ℕ) → List ℕ → List Token
cut None [] = []
cut None (c ∷ cs) =
    if is_whitespace c then cut None cs
    else (if starts_word c then cut (Some (c ∷ [])) cs
    else (sign_or_invalid c (sign_of c) ∷ cut None cs))
cut (Some w) [] = Word w ∷ []
cut (Some w) (c ∷ cs) =
    if in_word c then cut (Some (w ++ c ∷ [])) cs
    else (Word w ∷ (if is_whitespace c then cut None cs
    else (sign_or_invalid c (sign_of c) ∷ cut None cs)))

-- a token without where it lies in memory
abbrev pub token : Lexeme → Token
token (lexeme.Sign s) = SignToken s
token (lexeme.Word w) = Word w.now
token (lexeme.Invalid c) = Invalid c
