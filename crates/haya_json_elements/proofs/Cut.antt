-- Where the lexemes of an element end.
use Rattle.std.proofs.Common.{◌≡◌, ℕ, Bool, true, false, List, [], ◌∷◌, ◌++◌, refl, sym, ap, ◌∙◌, subst}
use Rattle.std.proofs.lemmas.Bool.{false≢true, true≢false}
use Rattle.json.specs.Token.{Token}
use Rattle.json.specs.Lex.{Lexeme, token, comma, colon, Place, fresh, after_value, after_comma, after_key, begins_colon, may_begin, place_token, punctuate}
use Rattle.haya_json_elements.specs.declared.place.Brackets.{Brackets}
use Rattle.haya_json_elements.proofs.Bracketed.{close_token}
use Rattle.haya_json_elements.proofs.TokenKinds.{closer, member_name, kind, IsSound, HoldsBehind, IsRest, IsInside, sound_kind, place_behind, is_behind_value, Fits, Fits-colon, Fits-comma, left_behind}
use Rattle.haya_json_elements.proofs.TokenPlaces.{no_bad, places, begins_colon-append}

-- the lexemes begin with this token's, and the rest is read as `left`
pub record Begins (ls : List Lexeme) (x : Token) (left : List Token) : Type 0 where
  pub tail : List Lexeme
  pub is : ls ≡ token x ∷ tail
  pub reads : punctuate (place_behind (kind x)) tail ≡ left

-- Lexemes whose first token is no name begin with its lexeme.
pub begins : (ls : List Lexeme) (x : Token) (left : List Token) → IsSound (kind x)
    → (kind x ≡ member_name → ⊥)
    → punctuate fresh ls ≡ x ∷ left → Begins ls x left
unfolding punctuate
begins [] x left s other e = absurd cc
begins (token t ∷ ls) x left s other e =
    let p = places (λ n. punctuate n ls) x left s fresh t (begins_colon ls) e in
    record { tail = ls; is = ap (λ u. token u ∷ ls) (p.same other); reads = sym p.front.is_left }
begins (comma ∷ ls) x left s other e = no_bad x left s e
begins (colon ∷ ls) x left s other e = no_bad x left s e

-- ---- where an element ends

-- what separates an element from what follows: a comma, or the bracket that closes
abbrev pub separator : Brackets → Bool → Lexeme
separator b true = comma
separator b false = token (close_token b)

-- the tokens begin with the bracket that closes, or with those of an element
abbrev pub Follows : Brackets → List Token → Type 0
Follows b [] = ⊥
Follows b (t ∷ ts) = (kind t ≡ closer → t ≡ close_token b) × IsSound (kind t)

-- the lexemes of an element whose rest has the tokens ts, and what stands behind them
pub record Cut (b : Brackets) (q : Place) (d : ℕ) (ls : List Lexeme) (ts after : List Token)
    : Type 0 where
  pub front : List Lexeme
  pub more : Bool
  pub rest : List Lexeme
  pub is : ls ≡ front ++ separator b more ∷ rest
  pub inside : IsInside d front
  pub reads : punctuate q front ≡ ts
  pub behind : punctuate after_value (separator b more ∷ rest) ≡ after

-- Behind a value only the bracket that closes stands.
only_closing : (b : Brackets) (t : Token) (before : Bool) (k : Place → List Token)
    → Follows b (place_token after_value t before k) → t ≡ close_token b
only_closing b Token.begin_object before k h = absurd h.1
only_closing b Token.end_object before k h = h.0 refl
only_closing b Token.begin_array before k h = absurd h.1
only_closing b Token.end_array before k h = h.0 refl
only_closing b (Token.key s) before k h = absurd h.1
only_closing b (Token.string s) true k h = absurd h.1
only_closing b (Token.string s) false k h = absurd h.1
only_closing b (Token.number s) before k h = absurd h.1
only_closing b (Token.boolean v) before k h = absurd h.1
only_closing b Token.null before k h = absurd h.1
only_closing b Token.bad before k h = absurd h.1

-- No colon separates elements.
separator_begins : (b : Brackets) (more : Bool) (rest : List Lexeme)
    → begins_colon (separator b more ∷ rest) ≡ false
separator_begins b true rest = refl
separator_begins b false rest = refl

module _ (b : Brackets) (after : List Token) (follows : Follows b after) where
  -- where a value has ended, the element ends
  at_end : (ls : List Lexeme) → punctuate after_value ls ≡ after → Cut b after_value 0 ls [] after
  unfolding punctuate
  at_end [] e = absurd (subst (Follows b) (sym e) follows)
  at_end (token t ∷ ls) e =
      let is = only_closing b t _ _ (subst (Follows b) (sym e) follows) in
      record {
        front = [];
        more = false;
        rest = ls;
        is = ap (λ u. token u ∷ ls) is;
        inside = refl;
        reads = refl;
        behind = ap (λ u. punctuate after_value (token u ∷ ls)) (sym is) ∙ e;
      }
  at_end (comma ∷ ls) e =
      record {
        front = [];
        more = true;
        rest = ls;
        is = refl;
        inside = refl;
        reads = refl;
        behind = e;
      }
  at_end (colon ∷ ls) e = absurd ((subst (Follows b) (sym e) follows).1)

  -- the element ends somewhere in these lexemes, whatever is left of it
  abbrev Cuts : List Lexeme → Type 0
  Cuts ls = (q : Place) (due : Bool) (d : ℕ) (ts : List Token) → Fits due d q → IsRest due d ts
      → punctuate q ls ≡ ts ++ after → Cut b q d ls ts after

  -- where nothing is left
  at_nothing : (ls : List Lexeme) (q : Place) (due : Bool) (d : ℕ) → Fits due d q → IsRest due d []
      → punctuate q ls ≡ after → Cut b q d ls [] after
  at_nothing ls q true d f h e = absurd (true≢false h.0)
  at_nothing ls q false d f h e = at_place q (subst (λ n. Fits false n q) h.1 f refl) e
    where
      at_place : (p : Place) → is_behind_value p ≡ true → punctuate p ls ≡ after
          → Cut b p d ls [] after
      at_place fresh g e = absurd (false≢true g)
      at_place after_value g e =
          subst (λ n. Cut b after_value n ls [] after) (sym h.1) (at_end ls e)
      at_place after_comma g e = absurd (false≢true g)
      at_place after_key g e = absurd (false≢true g)

  -- at a token
  at_token : (u : Token) (ls : List Lexeme) → Cuts ls → Cuts (token u ∷ ls)
  unfolding punctuate
  at_token u ls again q due d [] f h e = at_nothing (token u ∷ ls) q due d f h e
  at_token u ls again q due d (t ∷ ts) f h e =
      let s = sound_kind (kind t) due d (λ b n. IsRest b n ts) h.1 in
      let p = places (λ n. punctuate n ls) t (ts ++ after) s q u (begins_colon ls) e in
      let n = left_behind (kind t) q due d ts f h.0 h.1 in
      let c = again (place_behind (kind t)) n.due n.within ts n.fits n.rest (sym p.front.is_left) in
      let inside : HoldsBehind (kind u) false d (λ b m. IsInside m c.front) =
      subst (λ k. HoldsBehind k false d (λ b m. IsInside m c.front)) (sym p.spells)
      (n.inside c.front c.inside) in
      let same : begins_colon c.front ≡ begins_colon ls =
      let tail = separator b c.more ∷ c.rest in
      sym (ap begins_colon c.is
      ∙ begins_colon-append c.front tail (separator_begins b c.more c.rest)) in
      record {
        front = token u ∷ c.front;
        more = c.more;
        rest = c.rest;
        is = ap (λ l. token u ∷ l) c.is;
        inside = inside;
        reads = ap (λ before. place_token q u before (λ m. punctuate m c.front)) same
            ∙ p.front.again (λ m. punctuate m c.front)
            ∙ ap (λ l. t ∷ l) c.reads;
        behind = c.behind;
      }

  -- at a comma
  at_comma : (ls : List Lexeme) → Cuts ls → Cuts (comma ∷ ls)
  unfolding punctuate
  at_comma ls again q due d [] f h e = at_nothing (comma ∷ ls) q due d f h e
  at_comma ls again fresh due d (t ∷ ts) f h e =
      no_bad t (ts ++ after) (sound_kind (kind t) due d (λ b n. IsRest b n ts) h.1) e
  at_comma ls again after_comma due d (t ∷ ts) f h e =
      no_bad t (ts ++ after) (sound_kind (kind t) due d (λ b n. IsRest b n ts) h.1) e
  at_comma ls again after_key due d (t ∷ ts) f h e =
      no_bad t (ts ++ after) (sound_kind (kind t) due d (λ b n. IsRest b n ts) h.1) e
  at_comma ls again after_value true d (t ∷ ts) f h e = absurd (true≢false f.1)
  at_comma ls again after_value false d (t ∷ ts) f h e =
      let c = again after_comma false d (t ∷ ts) (Fits-comma false d t ts f h) h e in
      record {
        front = comma ∷ c.front;
        more = c.more;
        rest = c.rest;
        is = ap (λ l. comma ∷ l) c.is;
        inside = (h.0, c.inside);
        reads = c.reads;
        behind = c.behind;
      }

  -- at a colon
  at_colon : (ls : List Lexeme) → Cuts ls → Cuts (colon ∷ ls)
  unfolding punctuate
  at_colon ls again q due d [] f h e = at_nothing (colon ∷ ls) q due d f h e
  at_colon ls again fresh due d (t ∷ ts) f h e =
      no_bad t (ts ++ after) (sound_kind (kind t) due d (λ b n. IsRest b n ts) h.1) e
  at_colon ls again after_comma due d (t ∷ ts) f h e =
      no_bad t (ts ++ after) (sound_kind (kind t) due d (λ b n. IsRest b n ts) h.1) e
  at_colon ls again after_value due d (t ∷ ts) f h e =
      no_bad t (ts ++ after) (sound_kind (kind t) due d (λ b n. IsRest b n ts) h.1) e
  at_colon ls again after_key due d (t ∷ ts) f h e =
      let c = again fresh due d (t ∷ ts) (Fits-colon due d f) h e in
      record {
        front = colon ∷ c.front;
        more = c.more;
        rest = c.rest;
        is = ap (λ l. colon ∷ l) c.is;
        inside = c.inside;
        reads = c.reads;
        behind = c.behind;
      }

  -- at the end of the lexemes
  at_last : Cuts []
  unfolding punctuate
  at_last q due d [] f h e = at_nothing [] q due d f h e
  at_last fresh due d (t ∷ ts) f h e = absurd cc
  at_last after_value due d (t ∷ ts) f h e = absurd cc
  at_last after_comma due d (t ∷ ts) f h e =
      no_bad t (ts ++ after) (sound_kind (kind t) due d (λ b n. IsRest b n ts) h.1) e
  at_last after_key due d (t ∷ ts) f h e =
      no_bad t (ts ++ after) (sound_kind (kind t) due d (λ b n. IsRest b n ts) h.1) e

  -- The element ends somewhere in the lexemes whose tokens are its own and then those that follow.
  cuts : (ls : List Lexeme) → Cuts ls
  cuts [] = at_last
  cuts (token t ∷ ls) = at_token t ls (cuts ls)
  cuts (comma ∷ ls) = at_comma ls (cuts ls)
  cuts (colon ∷ ls) = at_colon ls (cuts ls)

-- the lexemes of the first element, read behind its opening bracket or behind a comma
pub cut : (b : Brackets) (q : Place) (ls : List Lexeme) (ts after : List Token) → may_begin q ≡ true
    → IsRest true 0 ts → Follows b after → punctuate q ls ≡ ts ++ after → Cut b q 0 ls ts after
cut b fresh ls ts after m h f e = cuts b after f ls fresh true 0 ts (refl, refl) h e
cut b after_value ls ts after m h f e = absurd (false≢true m)
cut b after_comma ls ts after m h f e = cuts b after f ls after_comma true 0 ts (refl, refl) h e
cut b after_key ls ts after m h f e = absurd (false≢true m)
