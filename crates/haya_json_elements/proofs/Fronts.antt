-- What follows an element, and what stands behind the last.
use Rattle.std.proofs.Common.{◌≡◌, ℕ, Bool, true, false, List, [], ◌∷◌, refl, subst}
use Rattle.std.proofs.lemmas.Bool.{true≢false}
use Rattle.std.specs.Prelude.{⊤}
use Rattle.json.specs.Token.{Token}
use Rattle.json.specs.Lex.{Lexeme, token, comma, colon, Place, after_value, after_comma, begins_colon, place_token, punctuate}
use Rattle.haya_json_elements.specs.declared.place.Brackets.{Brackets}
use Rattle.haya_json_elements.specs.declared.place.Brackets.TheVariants.{Square, Curly}
use Rattle.haya_json_elements.proofs.Bracketed.{close_token}
use Rattle.haya_json_elements.proofs.Cut.{Follows}
use Rattle.haya_json_elements.proofs.TokenKinds.{Kind, opener, closer, scalar, member_name, fault, kind, IsSound, HoldsBehind, IsRest, AreElements}
use Rattle.haya_json_elements.proofs.TokenPlaces.{IsNoCloser, some_token, some_behind_comma}
use Rattle.haya_json_elements.proofs.Rests.{all_tokens}

follows_kind : {A : Type 0} (k : Kind) (next : Bool → ℕ → Type 0) → HoldsBehind k true 0 next
    → (k ≡ closer → A) × IsSound k
follows_kind opener next h = (λ e. absurd cc, tt)
follows_kind closer next h = absurd (true≢false h.0)
follows_kind scalar next h = (λ e. absurd cc, tt)
follows_kind member_name next h = (λ e. absurd cc, tt)
follows_kind fault next h = absurd h

-- Elements and the bracket that closes follow an element.
pub Follows-all_tokens : (b : Brackets) (tss : List (List Token)) → AreElements tss
    → Follows b (all_tokens b tss)
Follows-all_tokens Square [] h = (λ e. refl, tt)
Follows-all_tokens Curly [] h = (λ e. refl, tt)
Follows-all_tokens b ([] ∷ tss) h = absurd (true≢false h.0.0)
Follows-all_tokens b ((t ∷ ts) ∷ tss) h =
    follows_kind (kind t) (λ due n. IsRest due n ts) h.0.1

-- the tokens begin with no closing bracket
abbrev NoClosing : List Token → Type 0
NoClosing [] = ⊤
NoClosing (t ∷ ts) = IsNoCloser (kind t)

NoClosing-token : (t : Token) (before : Bool) (k : Place → List Token)
    → NoClosing (place_token after_comma t before k)
NoClosing-token Token.begin_object before k = tt
NoClosing-token Token.end_object before k = tt
NoClosing-token Token.begin_array before k = tt
NoClosing-token Token.end_array before k = tt
NoClosing-token (Token.key s) before k = tt
NoClosing-token (Token.string s) true k = tt
NoClosing-token (Token.string s) false k = tt
NoClosing-token (Token.number s) before k = tt
NoClosing-token (Token.boolean v) before k = tt
NoClosing-token Token.null before k = tt
NoClosing-token Token.bad before k = tt

NoClosing-behind_comma : (ls : List Lexeme) → NoClosing (punctuate after_comma ls)
unfolding punctuate
NoClosing-behind_comma [] = tt
NoClosing-behind_comma (token t ∷ ls) = NoClosing-token t (begins_colon ls) (λ n. punctuate n ls)
NoClosing-behind_comma (comma ∷ ls) = tt
NoClosing-behind_comma (colon ∷ ls) = tt

-- No bracket closes behind a comma.
pub no_closing : (b : Brackets) (ls : List Lexeme) → punctuate after_comma ls ≡ close_token b ∷ []
    → ⊥
no_closing Square ls e = subst NoClosing e (NoClosing-behind_comma ls)
no_closing Curly ls e = subst NoClosing e (NoClosing-behind_comma ls)

-- Where no token is read behind a value there is no lexeme.
pub nothing_left : (ls : List Lexeme) → punctuate after_value ls ≡ [] → ls ≡ []
unfolding punctuate
nothing_left [] e = refl
nothing_left (token t ∷ ls) e =
    absurd (some_token after_value t (begins_colon ls) (λ n. punctuate n ls) e)
nothing_left (comma ∷ ls) e = absurd (some_behind_comma ls e)
nothing_left (colon ∷ ls) e = absurd cc

-- Behind the bracket that closes stands nothing, and no element.
pub behind_closing : (b : Brackets) (ls : List Lexeme) (tss : List (List Token)) → AreElements tss
    → punctuate after_value (token (close_token b) ∷ ls) ≡ all_tokens b tss → (tss ≡ []) × (ls ≡ [])
unfolding punctuate
behind_closing Square ls [] h e =
    let tail : punctuate after_value ls ≡ [] = cc in
    (refl, nothing_left ls tail)
behind_closing Curly ls [] h e =
    let tail : punctuate after_value ls ≡ [] = cc in
    (refl, nothing_left ls tail)
behind_closing b ls ([] ∷ tss) h e = absurd (true≢false h.0.0)
behind_closing Square ls ((t ∷ ts) ∷ tss) h e =
    let is : t ≡ Token.end_array = cc in
    absurd (true≢false ((subst (λ u. IsRest true 0 (u ∷ ts)) is h.0).1.0))
behind_closing Curly ls ((t ∷ ts) ∷ tss) h e =
    let is : t ≡ Token.end_object = cc in
    absurd (true≢false ((subst (λ u. IsRest true 0 (u ∷ ts)) is h.0).1.0))
