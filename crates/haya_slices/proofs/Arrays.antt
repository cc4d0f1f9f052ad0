-- A text that is laid out in square brackets and is JSON is an array, and so of an object.
use Rattle.std.proofs.Common.{◌≡◌, ℕ, List, [], ◌∷◌, ◌++◌, length, Option, Some, None, option_and_then, refl, sym, ap, ◌∙◌}
use Rattle.json.specs.Token.{Token}
use Rattle.json.specs.Json.{Json, Items, Members, array, object, document, if_last, items, members, parse_map, value}
use Rattle.json.specs.Lex.{between, fresh, lex, punctuate, space, tokens}
use Rattle.haya_json_elements.specs.Steps.{closing_bracket}
use Rattle.haya_json_elements.specs.declared.place.Brackets.TheVariants.{Square, Curly}
use Rattle.haya_slices.specs.Layout.{IsLaidOut, IsWhite}
use Rattle.haya_slices.proofs.Classes.{lex_class}
use Rattle.haya_slices.proofs.Lines.{space_class}

-- White space in front has no lexemes.
lex-white : (front xs : List ℕ) → IsWhite front → lex between (front ++ xs) ≡ lex between xs
lex-white [] xs h = refl
lex-white (x ∷ front) xs h =
    lex_class between x (front ++ xs) space (space_class x h.0) ∙ lex-white front xs h.1

-- ---- what a value is that is read behind a bracket

array_read : (o : Option (Items × List Token)) (j : Json)
    → option_and_then (λ p. if_last p.0 p.1) (parse_map array o) ≡ Some j
    → (js : Items) × (j ≡ array js)
array_read None j e = absurd cc
array_read (Some (js, [])) j e = let is : array js ≡ j = cc in (js, sym is)
array_read (Some (js, t ∷ ts)) j e = absurd cc

object_read : (o : Option (Members × List Token)) (j : Json)
    → option_and_then (λ p. if_last p.0 p.1) (parse_map object o) ≡ Some j
    → (ms : Members) × (j ≡ object ms)
object_read None j e = absurd cc
object_read (Some (ms, [])) j e = let is : object ms ≡ j = cc in (ms, sym is)
object_read (Some (ms, t ∷ ts)) j e = absurd cc

-- the tokens of a text that begins with a bracket
tokens-square : (rest : List ℕ)
    → tokens (91 ∷ rest) ≡ Token.begin_array ∷ punctuate fresh (lex between rest)
unfolding lex punctuate
tokens-square rest = refl

tokens-curly : (rest : List ℕ)
    → tokens (123 ∷ rest) ≡ Token.begin_object ∷ punctuate fresh (lex between rest)
unfolding lex punctuate
tokens-curly rest = refl

read_array : (ts : List Token) (j : Json)
    → option_and_then (λ p. if_last p.0 p.1) (value 128 (Token.begin_array ∷ ts)) ≡ Some j
    → (js : Items) × (j ≡ array js)
unfolding value
read_array ts j e = array_read (items (value 127) (length ts) ts) j e

read_object : (ts : List Token) (j : Json)
    → option_and_then (λ p. if_last p.0 p.1) (value 128 (Token.begin_object ∷ ts)) ≡ Some j
    → (ms : Members) × (j ≡ object ms)
unfolding value
read_object ts j e = object_read (members (value 127) (length ts) ts) j e

pub is_array : (text : List ℕ) (parts : List (List ℕ)) (j : Json) → IsLaidOut Square text parts
    → document text ≡ Some j → (js : Items) × (j ≡ array js)
is_array text parts j h e =
    let rest = h.list ++ closing_bracket Square ∷ h.back in
    let begins = ap tokens h.is ∙ ap (punctuate fresh) (lex-white h.front (91 ∷ rest) h.before)
    ∙ tokens-square rest in
    read_array (punctuate fresh (lex between rest)) j
    (ap (λ ts. option_and_then (λ p. if_last p.0 p.1) (value 128 ts)) (sym begins) ∙ e)

pub is_object : (text : List ℕ) (parts : List (List ℕ)) (j : Json) → IsLaidOut Curly text parts
    → document text ≡ Some j → (ms : Members) × (j ≡ object ms)
is_object text parts j h e =
    let rest = h.list ++ closing_bracket Curly ∷ h.back in
    let begins = ap tokens h.is ∙ ap (punctuate fresh) (lex-white h.front (123 ∷ rest) h.before)
    ∙ tokens-curly rest in
    read_object (punctuate fresh (lex between rest)) j
    (ap (λ ts. option_and_then (λ p. if_last p.0 p.1) (value 128 ts)) (sym begins) ∙ e)
