-- The lexemes of elements in brackets, separated by commas.
use Rattle.std.proofs.Common.{List, [], ◌∷◌, ◌++◌}
use Rattle.json.specs.Lex.{Lexeme, comma, token}
use Rattle.json.specs.Token.{Token}
use Rattle.haya_json_elements.specs.declared.place.Brackets.{Brackets}
use Rattle.haya_json_elements.specs.declared.place.Brackets.TheVariants.{Square, Curly}

-- the token of the bracket that opens
abbrev pub open_token : Brackets → Token
open_token Square = Token.begin_array
open_token Curly = Token.begin_object

-- the token of the bracket that closes
abbrev pub close_token : Brackets → Token
close_token Square = Token.end_array
close_token Curly = Token.end_object

-- behind an element: the others, each behind a comma, and the bracket that closes
abbrev pub tail_of : Brackets → List (List Lexeme) → List Lexeme
tail_of b [] = token (close_token b) ∷ []
tail_of b (l ∷ lss) = comma ∷ (l ++ tail_of b lss)

-- behind the bracket that opens: the elements, separated by commas, and the bracket that closes
abbrev pub body_of : Brackets → List (List Lexeme) → List Lexeme
body_of b [] = token (close_token b) ∷ []
body_of b (l ∷ lss) = l ++ tail_of b lss

-- the elements in brackets
abbrev pub in_brackets : Brackets → List (List Lexeme) → List Lexeme
in_brackets b lss = token (open_token b) ∷ body_of b lss
