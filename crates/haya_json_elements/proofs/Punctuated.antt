-- The tokens of elements in brackets.
use Rattle.std.proofs.Common.{◌≡◌, ℕ, ◌==◌, Bool, true, false, List, [], ◌∷◌, ◌++◌, map, refl, sym, ap, ◌∙◌, subst}
use Rattle.std.proofs.lemmas.Bool.{false≢true, true≢false}
use Rattle.json.specs.Token.{Token}
use Rattle.json.specs.Lex.{Lexeme, token, comma, colon, Place, fresh, after_value, after_comma, after_key, begins_colon, may_close, if_allowed, place_token, punctuate}
use Rattle.haya_json_elements.specs.declared.place.Brackets.{Brackets}
use Rattle.haya_json_elements.specs.declared.place.Brackets.TheVariants.{Square, Curly}
use Rattle.haya_json_elements.proofs.Bracketed.{open_token, close_token, tail_of, body_of, in_brackets}
use Rattle.haya_json_elements.proofs.TokenKinds.{kind, IsRest, IsElement, AreElements, sound_kind, place_behind, Fits, Fits-colon, Fits-comma, left_behind}
use Rattle.haya_json_elements.proofs.TokenPlaces.{places, some_token, some_behind_comma, begins_colon-append, BeginsAs-append, BeginsAs-element, alone}
use Rattle.haya_json_elements.proofs.Rests.{all_tokens}

-- ---- lexemes with more behind them

module _ (more : List Lexeme) where
  -- more behind the lexemes of the rest of an element is read as behind a value
  abbrev Appends : List Lexeme → Type 0
  Appends ls =
      (q : Place) (due : Bool) (d : ℕ) → Fits due d q → IsRest due d (punctuate q ls)
      → punctuate q (ls ++ more) ≡ punctuate q ls ++ punctuate after_value more

  -- at a token
  token-append : (t : Token) (before : Bool) (ls : List Lexeme) (q : Place) (due : Bool) (d : ℕ)
      (ts : List Token) → Appends ls → Fits due d q → IsRest due d ts
      → place_token q t before (λ n. punctuate n ls) ≡ ts
      → place_token q t before (λ n. punctuate n (ls ++ more)) ≡ ts ++ punctuate after_value more
  token-append t before ls q due d [] again f h e =
      absurd (some_token q t before (λ n. punctuate n ls) e)
  token-append t before ls q due d (x ∷ left) again f h e =
      let s = sound_kind (kind x) due d (λ b n. IsRest b n left) h.1 in
      let p = places (λ n. punctuate n ls) x left s q t before e in
      let n = left_behind (kind x) q due d left f h.0 h.1 in
      let rest = subst (IsRest n.due n.within) p.front.is_left n.rest in
      p.front.again (λ m. punctuate m (ls ++ more))
      ∙ ap (λ ts. x ∷ ts) (again (place_behind (kind x)) n.due n.within n.fits rest)
      ∙ ap (λ ts. x ∷ (ts ++ punctuate after_value more)) (sym p.front.is_left)

  -- at a comma
  comma-append : (ls : List Lexeme) (due : Bool) (d : ℕ) (ts : List Token) → Appends ls
      → Fits due d after_value → punctuate after_comma ls ≡ ts → IsRest due d ts
      → punctuate after_comma (ls ++ more) ≡ punctuate after_comma ls ++ punctuate after_value more
  comma-append ls due d [] again f e h = absurd (some_behind_comma ls e)
  comma-append ls due d (t ∷ ts) again f e h =
      again after_comma due d (Fits-comma due d t ts f h) (subst (IsRest due d) (sym e) h)

  -- where nothing is left
  nothing-append : (due : Bool) (d : ℕ) → Fits due d fresh → IsRest due d [] → ⊥
  nothing-append true d f h = true≢false h.0
  nothing-append false d f h = false≢true (f (ap (λ n. n == 0) h.1))

  pub punctuate-append : begins_colon more ≡ false → (ls : List Lexeme) → Appends ls
  unfolding punctuate
  punctuate-append e [] fresh due d f h = absurd (nothing-append due d f h)
  punctuate-append e [] after_value due d f h = refl
  punctuate-append e [] after_comma due d f h = absurd h.1
  punctuate-append e [] after_key due d f h = absurd h.1
  punctuate-append e (token t ∷ ls) q due d f h =
      ap (λ b. place_token q t b (λ n. punctuate n (ls ++ more))) (begins_colon-append ls more e)
      ∙ token-append t (begins_colon ls) ls q due d _ (punctuate-append e ls) f h refl
  punctuate-append e (comma ∷ ls) fresh due d f h = absurd h.1
  punctuate-append e (comma ∷ ls) after_value due d f h =
      comma-append ls due d _ (punctuate-append e ls) f refl h
  punctuate-append e (comma ∷ ls) after_comma due d f h = absurd h.1
  punctuate-append e (comma ∷ ls) after_key due d f h = absurd h.1
  punctuate-append e (colon ∷ ls) fresh due d f h = absurd h.1
  punctuate-append e (colon ∷ ls) after_value due d f h = absurd h.1
  punctuate-append e (colon ∷ ls) after_comma due d f h = absurd h.1
  punctuate-append e (colon ∷ ls) after_key due d f h =
      punctuate-append e ls fresh due d (Fits-colon due d f) h

-- ---- elements in brackets

-- the tokens of the lexemes of each element
abbrev pub tokens_of_each : List (List Lexeme) → List (List Token)
tokens_of_each lss = map (λ ls. punctuate fresh ls) lss

-- Where a bracket may close, it is read.
punctuate-closing : (b : Brackets) (q : Place) → may_close q ≡ true
    → punctuate q (token (close_token b) ∷ []) ≡ close_token b ∷ []
unfolding punctuate
punctuate-closing Square q e =
    ap (λ may. if_allowed may Token.end_array (λ n. punctuate n []) after_value) e
punctuate-closing Curly q e =
    ap (λ may. if_allowed may Token.end_object (λ n. punctuate n []) after_value) e

-- No colon separates elements.
begins_colon-tail_of : (b : Brackets) (lss : List (List Lexeme))
    → begins_colon (tail_of b lss) ≡ false
begins_colon-tail_of b [] = refl
begins_colon-tail_of b (l ∷ lss) = refl

-- An element with others behind it is read alone, and then the others are.
element-append : (b : Brackets) (l : List Lexeme) (lss : List (List Lexeme))
    → IsElement (punctuate fresh l)
    → punctuate fresh (l ++ tail_of b lss)
    ≡ punctuate fresh l ++ punctuate after_value (tail_of b lss)
element-append b l lss h =
    punctuate-append (tail_of b lss) (begins_colon-tail_of b lss) l fresh true 0 (refl, refl) h

punctuate-tail_of : (b : Brackets) (lss : List (List Lexeme)) → AreElements (tokens_of_each lss)
    → punctuate after_value (tail_of b lss) ≡ all_tokens b (tokens_of_each lss)
unfolding punctuate
punctuate-tail_of b [] h = punctuate-closing b after_value refl
punctuate-tail_of b (l ∷ lss) h =
    let begins = BeginsAs-element fresh l (punctuate fresh l) refl h.0 refl in
    let more = BeginsAs-append l (tail_of b lss) begins in
    sym (alone after_comma (l ++ tail_of b lss) refl more)
    ∙ element-append b l lss h.0
    ∙ ap (λ ts. punctuate fresh l ++ ts) (punctuate-tail_of b lss h.1)

punctuate-body_of : (b : Brackets) (lss : List (List Lexeme)) → AreElements (tokens_of_each lss)
    → punctuate fresh (body_of b lss) ≡ all_tokens b (tokens_of_each lss)
punctuate-body_of b [] h = punctuate-closing b fresh refl
punctuate-body_of b (l ∷ lss) h =
    element-append b l lss h.0 ∙ ap (λ ts. punctuate fresh l ++ ts) (punctuate-tail_of b lss h.1)

-- Elements in brackets are read one after another, between the tokens of the brackets.
pub punctuate-in_brackets : (b : Brackets) (lss : List (List Lexeme))
    → AreElements (tokens_of_each lss)
    → punctuate fresh (in_brackets b lss) ≡ open_token b ∷ all_tokens b (tokens_of_each lss)
unfolding punctuate
punctuate-in_brackets Square lss h =
    ap (λ ts. Token.begin_array ∷ ts) (punctuate-body_of Square lss h)
punctuate-in_brackets Curly lss h =
    ap (λ ts. Token.begin_object ∷ ts) (punctuate-body_of Curly lss h)
