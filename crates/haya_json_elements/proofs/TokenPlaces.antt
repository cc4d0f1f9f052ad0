-- What is read at a token's lexeme.
use Rattle.std.proofs.Common.{◌≡◌, ℕ, Bool, true, false, List, [], ◌∷◌, ◌++◌, refl, sym, ap, ◌∙◌, subst}
use Rattle.std.proofs.lemmas.Bool.{false≢true, true≢false}
use Rattle.std.specs.Prelude.{⊤}
use Rattle.json.specs.Token.{Token}
use Rattle.json.specs.Lex.{Lexeme, token, comma, colon, Place, fresh, after_value, after_comma, after_key, begins_colon, may_begin, may_close, if_allowed, place_token, punctuate}
use Rattle.haya_json_elements.proofs.TokenKinds.{Kind, opener, closer, scalar, member_name, fault, kind, IsSound, HoldsBehind, sound_kind, IsRest, IsElement, place_behind, spelled_kind}

-- ---- tokens where they are allowed

-- The token x is put in front of whatever the rest is read as; here the rest is read as `left`.
pub record PutsInFront (f : (Place → List Token) → List Token) (k : Place → List Token) (x : Token)
    (left : List Token) : Type 0 where
  pub is_left : left ≡ k (place_behind (kind x))
  pub again : (m : Place → List Token) → f m ≡ x ∷ m (place_behind (kind x))

pub no_bad : {A : Type 0} (x : Token) (left : List Token) → IsSound (kind x)
    → Token.bad ∷ [] ≡ x ∷ left
    → A
no_bad x left s e = let is : x ≡ Token.bad = cc in absurd (subst (λ t. IsSound (kind t)) is s)

module _ (k : Place → List Token) (x : Token) (left : List Token) (s : IsSound (kind x)) where
  -- the token y is allowed, and it is x
  record AllowsToken (b : Bool) (y : Token) (next : Place) : Type 0 where
    same : x ≡ y
    front : PutsInFront (λ m. if_allowed b y m next) k x left

  allows : (b : Bool) (y : Token) (next : Place) → place_behind (kind y) ≡ next
      → if_allowed b y k next ≡ x ∷ left → AllowsToken b y next
  allows false y next p e = no_bad x left s e
  allows true y next p e =
      let same : x ≡ y = cc in
      let tail : left ≡ k next = cc in
      let here : place_behind (kind x) ≡ next = ap (λ t. place_behind (kind t)) same ∙ p in
      record {
        same = same;
        front = record {
          is_left = tail ∙ ap k (sym here);
          again = λ m. (λ i. sym same i ∷ m (sym here i));
        };
      }

  -- the lexeme of the token t is read as x, which is t unless it is a name
  pub record PlacesToken (q : Place) (t : Token) (before : Bool) : Type 0 where
    pub spells : kind t ≡ spelled_kind (kind x)
    pub same : (kind x ≡ member_name → ⊥) → t ≡ x
    pub front : PutsInFront (place_token q t before) k x left

  plain_token : (q : Place) (t : Token) (before b : Bool) (next : Place)
      → kind t ≡ spelled_kind (kind t)
      → place_behind (kind t) ≡ next
      → ((m : Place → List Token) → place_token q t before m ≡ if_allowed b t m next)
      → place_token q t before k ≡ x ∷ left → PlacesToken q t before
  plain_token q t before b next sp p f e =
      let a = allows b t next p (sym (f k) ∙ e) in
      record {
        spells = sp ∙ ap (λ y. spelled_kind (kind y)) (sym a.same);
        same = λ other. sym a.same;
        front = record { is_left = a.front.is_left; again = λ m. f m ∙ a.front.again m };
      }

  -- What is read at a token's lexeme is that token, or a name at a string.
  pub places : (q : Place) (t : Token) (before : Bool) → place_token q t before k ≡ x ∷ left
      → PlacesToken q t before
  places q Token.begin_object before e =
      plain_token q _ before (may_begin q) _ refl refl (λ m. refl) e
  places q Token.end_object before e =
      plain_token q _ before (may_close q) _ refl refl (λ m. refl) e
  places q Token.begin_array before e =
      plain_token q _ before (may_begin q) _ refl refl (λ m. refl) e
  places q Token.end_array before e =
      plain_token q _ before (may_close q) _ refl refl (λ m. refl) e
  places q (Token.key n) before e = no_bad x left s e
  places q (Token.string n) true e =
      let a = allows (may_begin q) (Token.key n) after_key refl e in
      record {
        spells = ap (λ y. spelled_kind (kind y)) (sym a.same);
        same = λ other. absurd (other (ap kind a.same));
        front = a.front;
      }
  places q (Token.string n) false e = plain_token q _ false (may_begin q) _ refl refl (λ m. refl) e
  places q (Token.number n) before e =
      plain_token q _ before (may_begin q) _ refl refl (λ m. refl) e
  places q (Token.boolean v) before e =
      plain_token q _ before (may_begin q) _ refl refl (λ m. refl) e
  places q Token.null before e =
      plain_token q _ before (may_begin q) _ refl refl (λ m. refl) e
  places q Token.bad before e = no_bad x left s e

some_allowed : (b : Bool) (t : Token) (k : Place → List Token) (next : Place)
    → if_allowed b t k next ≡ [] → ⊥
some_allowed true t k next e = cc
some_allowed false t k next e = cc

-- A lexeme's token is some token.
pub some_token : (q : Place) (t : Token) (before : Bool) (k : Place → List Token)
    → place_token q t before k ≡ [] → ⊥
some_token q Token.begin_object before k e = some_allowed (may_begin q) _ k _ e
some_token q Token.end_object before k e = some_allowed (may_close q) _ k _ e
some_token q Token.begin_array before k e = some_allowed (may_begin q) _ k _ e
some_token q Token.end_array before k e = some_allowed (may_close q) _ k _ e
some_token q (Token.key s) before k e = cc
some_token q (Token.string s) true k e = some_allowed (may_begin q) (Token.key s) k after_key e
some_token q (Token.string s) false k e = some_allowed (may_begin q) _ k after_value e
some_token q (Token.number s) before k e = some_allowed (may_begin q) _ k _ e
some_token q (Token.boolean v) before k e = some_allowed (may_begin q) _ k _ e
some_token q Token.null before k e = some_allowed (may_begin q) _ k _ e
some_token q Token.bad before k e = cc

pub some_behind_comma : (ls : List Lexeme) → punctuate after_comma ls ≡ [] → ⊥
unfolding punctuate
some_behind_comma [] e = cc
some_behind_comma (token t ∷ ls) e =
    some_token after_comma t (begins_colon ls) (λ n. punctuate n ls) e
some_behind_comma (comma ∷ ls) e = cc
some_behind_comma (colon ∷ ls) e = cc

-- A colon begins the lexemes with more behind them only if it begins the lexemes.
pub begins_colon-append : (ls more : List Lexeme) → begins_colon more ≡ false
    → begins_colon (ls ++ more) ≡ begins_colon ls
begins_colon-append [] more e = e
begins_colon-append (token t ∷ ls) more e = refl
begins_colon-append (comma ∷ ls) more e = refl
begins_colon-append (colon ∷ ls) more e = refl

-- ---- how an element begins

-- no bracket that closes
abbrev pub IsNoCloser : Kind → Type 0
IsNoCloser opener = ⊤
IsNoCloser closer = ⊥
IsNoCloser scalar = ⊤
IsNoCloser member_name = ⊤
IsNoCloser fault = ⊤

-- an element may begin with the lexeme
abbrev pub BeginsWith : Lexeme → Type 0
BeginsWith (token t) = IsNoCloser (kind t)
BeginsWith comma = ⊥
BeginsWith colon = ⊥

-- an element may begin with the first of the lexemes
abbrev pub BeginsAs : List Lexeme → Type 0
BeginsAs [] = ⊥
BeginsAs (l ∷ ls) = BeginsWith l

pub BeginsAs-append : (ls more : List Lexeme) → BeginsAs ls → BeginsAs (ls ++ more)
BeginsAs-append [] more h = absurd h
BeginsAs-append (l ∷ ls) more h = h

-- A fault is no element.
no_fault : {A : Type 0} (ts : List Token) → IsElement ts → Token.bad ∷ [] ≡ ts → A
no_fault ts h e = absurd ((subst IsElement (sym e) h).1)

first_kind : (k : Kind) (next : Bool → ℕ → Type 0) → HoldsBehind k true 0 next
    → IsNoCloser (spelled_kind k)
first_kind opener next h = tt
first_kind closer next h = absurd (true≢false h.0)
first_kind scalar next h = tt
first_kind member_name next h = tt
first_kind fault next h = absurd h

first_token : (q : Place) (t : Token) (before : Bool) (k : Place → List Token) (ts : List Token)
    → IsElement ts → place_token q t before k ≡ ts → IsNoCloser (kind t)
first_token q t before k [] h e = absurd (true≢false h.0)
first_token q t before k (x ∷ left) h e =
    let s = sound_kind (kind x) true 0 (λ b n. IsRest b n left) h.1 in
    let p = places k x left s q t before e in
    subst IsNoCloser (sym p.spells) (first_kind (kind x) (λ b n. IsRest b n left) h.1)

-- The lexemes of an element begin as one does.
pub BeginsAs-element : (q : Place) (ls : List Lexeme) (ts : List Token) → may_begin q ≡ true
    → IsElement ts → punctuate q ls ≡ ts → BeginsAs ls
unfolding punctuate
BeginsAs-element q (token t ∷ ls) ts m h e =
    first_token q t (begins_colon ls) (λ n. punctuate n ls) ts h e
BeginsAs-element fresh [] ts m h e = absurd (true≢false ((subst IsElement (sym e) h).0))
BeginsAs-element fresh (comma ∷ ls) ts m h e = no_fault ts h e
BeginsAs-element fresh (colon ∷ ls) ts m h e = no_fault ts h e
BeginsAs-element after_comma [] ts m h e = no_fault ts h e
BeginsAs-element after_comma (comma ∷ ls) ts m h e = no_fault ts h e
BeginsAs-element after_comma (colon ∷ ls) ts m h e = no_fault ts h e
BeginsAs-element after_value ls ts m h e = absurd (false≢true m)
BeginsAs-element after_key ls ts m h e = absurd (false≢true m)

alone_token : (t : Token) (before : Bool) (k : Place → List Token) → IsNoCloser (kind t)
    → place_token fresh t before k ≡ place_token after_comma t before k
alone_token Token.begin_object before k h = refl
alone_token Token.end_object before k h = absurd h
alone_token Token.begin_array before k h = refl
alone_token Token.end_array before k h = absurd h
alone_token (Token.key s) before k h = refl
alone_token (Token.string s) true k h = refl
alone_token (Token.string s) false k h = refl
alone_token (Token.number s) before k h = refl
alone_token (Token.boolean v) before k h = refl
alone_token Token.null before k h = refl
alone_token Token.bad before k h = refl

-- The lexemes of an element are read alone as they are behind a comma.
pub alone : (q : Place) (ls : List Lexeme) → may_begin q ≡ true → BeginsAs ls
    → punctuate fresh ls ≡ punctuate q ls
unfolding punctuate
alone fresh ls m h = refl
alone after_value ls m h = absurd (false≢true m)
alone after_key ls m h = absurd (false≢true m)
alone after_comma [] m h = absurd h
alone after_comma (token t ∷ ls) m h = alone_token t (begins_colon ls) (λ n. punctuate n ls) h
alone after_comma (comma ∷ ls) m h = absurd h
alone after_comma (colon ∷ ls) m h = absurd h
