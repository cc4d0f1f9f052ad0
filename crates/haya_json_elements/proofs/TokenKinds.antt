-- What a token does to the brackets and the value around it.
use Rattle.std.proofs.Common.{◌≡◌, ℕ, ◌+◌, ◌-◌, Bool, true, false, not, ◌&&◌, ◌==◌, nat_lt, List, [], ◌∷◌, refl, sym, ◌∙◌, arith}
use Rattle.std.proofs.lemmas.Bool.{true≢false, ne_eqb}
use Rattle.std.specs.Prelude.{⊤}
use Rattle.std.specs.List.{AllByRecursion}
use Rattle.json.specs.Token.{Token}
use Rattle.json.specs.Lex.{Lexeme, token, comma, colon, Place, fresh, after_value, after_comma, after_key}

-- a bracket, a value that has none, a member's name, or a fault
pub data Kind : Type 0 where
  opener : Kind
  closer : Kind
  scalar : Kind
  member_name : Kind
  fault : Kind

-- the kind of a token
abbrev pub kind : Token → Kind
kind Token.begin_object = opener
kind Token.end_object = closer
kind Token.begin_array = opener
kind Token.end_array = closer
kind (Token.key s) = member_name
kind (Token.string s) = scalar
kind (Token.number s) = scalar
kind (Token.boolean b) = scalar
kind Token.null = scalar
kind Token.bad = fault

-- no fault
abbrev pub IsSound : Kind → Type 0
IsSound opener = ⊤
IsSound closer = ⊤
IsSound scalar = ⊤
IsSound member_name = ⊤
IsSound fault = ⊥

-- no token is a fault
abbrev pub AreGood : List Token → Type 0
AreGood ts = AllByRecursion (λ t. IsSound (kind t)) ts

-- What holds behind a token of this kind within d brackets, where a value may be due.
abbrev pub HoldsBehind : Kind → Bool → ℕ → (Bool → ℕ → Type 0) → Type 0
HoldsBehind opener due d next = (nat_lt d 128 ≡ true) × next false (d + 1)
HoldsBehind closer due d next = ((d == 0) ≡ false) × next false (d - 1)
HoldsBehind scalar due d next = next false d
HoldsBehind member_name due d next = next due d
HoldsBehind fault due d next = ⊥

-- The tokens are the rest of one element: a value that is due, and then the brackets that are open.
abbrev pub IsRest : Bool → ℕ → List Token → Type 0
IsRest due d [] = (due ≡ false) × (d ≡ 0)
IsRest due d (t ∷ ts) =
    ((not due && (d == 0)) ≡ false) × HoldsBehind (kind t) due d (λ b n. IsRest b n ts)

-- the tokens are those of one element
abbrev pub IsElement : List Token → Type 0
IsElement ts = IsRest true 0 ts

-- each of the lists of tokens is an element
abbrev pub AreElements : List (List Token) → Type 0
AreElements tss = AllByRecursion IsElement tss

-- A token that something holds behind is no fault.
pub sound_kind : (k : Kind) (due : Bool) (d : ℕ) (next : Bool → ℕ → Type 0)
    → HoldsBehind k due d next → IsSound k
sound_kind opener due d next h = tt
sound_kind closer due d next h = tt
sound_kind scalar due d next h = tt
sound_kind member_name due d next h = tt
sound_kind fault due d next h = absurd h

-- The tokens of an element have no fault.
pub AreGood-rest : (due : Bool) (d : ℕ) (ts : List Token) → IsRest due d ts → AreGood ts
AreGood-rest due d [] h = tt
AreGood-rest due d (t ∷ ts) h = (
  sound_kind (kind t) due d (λ b n. IsRest b n ts) h.1,
  by (kind t) h.1 (λ b n. AreGood-rest b n ts),
)
  where
    by : (k : Kind) → HoldsBehind k due d (λ b n. IsRest b n ts)
        → ((b : Bool) (n : ℕ) → IsRest b n ts → AreGood ts) → AreGood ts
    by opener g again = again false (d + 1) g.1
    by closer g again = again false (d - 1) g.1
    by scalar g again = again false d g
    by member_name g again = again due d g
    by fault g again = absurd g

-- ---- the places of tokens

-- the place behind a token of this kind
abbrev pub place_behind : Kind → Place
place_behind opener = fresh
place_behind closer = after_value
place_behind scalar = after_value
place_behind member_name = after_key
place_behind fault = fresh

-- a value has ended in front of the place
abbrev pub is_behind_value : Place → Bool
is_behind_value fresh = false
is_behind_value after_value = true
is_behind_value after_comma = false
is_behind_value after_key = false

-- A place in front of the rest of an element: no value has ended where one is due, and outside of
-- brackets one has ended where none is due.
abbrev pub Fits : Bool → ℕ → Place → Type 0
Fits true d q = (d ≡ 0) × (is_behind_value q ≡ false)
Fits false d q = (d == 0) ≡ true → is_behind_value q ≡ true

-- Where the rest of an element fits behind a name, it fits behind the colon.
pub Fits-colon : (due : Bool) (d : ℕ) → Fits due d after_key → Fits due d fresh
Fits-colon true d f = f
Fits-colon false d f = f

-- Where more is left of an element, a comma leaves none of its values due.
pub Fits-comma : (due : Bool) (d : ℕ) (t : Token) (ts : List Token) → Fits due d after_value
    → IsRest due d (t ∷ ts) → Fits due d after_comma
Fits-comma true d t ts f h = absurd (true≢false f.1)
Fits-comma false d t ts f h = λ g. absurd (true≢false (sym g ∙ h.0))

-- the kind of the lexeme of a token: a name is a string
abbrev pub spelled_kind : Kind → Kind
spelled_kind opener = opener
spelled_kind closer = closer
spelled_kind scalar = scalar
spelled_kind member_name = scalar
spelled_kind fault = fault

-- the lexemes close d brackets, and no comma or closing bracket stands outside of brackets
abbrev pub IsInside : ℕ → List Lexeme → Type 0
IsInside d [] = d ≡ 0
IsInside d (token t ∷ ls) = HoldsBehind (kind t) false d (λ b n. IsInside n ls)
IsInside d (comma ∷ ls) = ((d == 0) ≡ false) × IsInside d ls
IsInside d (colon ∷ ls) = IsInside d ls

-- what is left of an element behind a token
pub record LeftBehind (k : Kind) (ts : List Token) (d : ℕ) : Type 0 where
  pub due : Bool
  pub within : ℕ
  pub fits : Fits due within (place_behind k)
  pub rest : IsRest due within ts
  pub inside : (ls : List Lexeme) → IsInside within ls
      → HoldsBehind (spelled_kind k) false d (λ b n. IsInside n ls)

pub left_behind : (k : Kind) (q : Place) (due : Bool) (d : ℕ) (ts : List Token) → Fits due d q
    → (not due && (d == 0)) ≡ false → HoldsBehind k due d (λ b n. IsRest b n ts)
    → LeftBehind k ts d
left_behind opener q due d ts f p h =
    let some : (d + 1 == 0) ≡ false = ne_eqb (d + 1) 0 (λ e. omega arith) in
    record {
      due = false;
      within = d + 1;
      fits = λ e. absurd (true≢false (sym e ∙ some));
      rest = h.1;
      inside = λ ls i. (h.0, i);
    }
left_behind closer q due d ts f p h =
    record {
      due = false;
      within = d - 1;
      fits = λ e. refl;
      rest = h.1;
      inside = λ ls i. (h.0, i);
    }
left_behind scalar q due d ts f p h =
    record { due = false; within = d; fits = λ e. refl; rest = h; inside = λ ls i. i }
left_behind member_name q true d ts f p h =
    record { due = true; within = d; fits = (f.0, refl); rest = h; inside = λ ls i. i }
left_behind member_name q false d ts f p h =
    record {
      due = false;
      within = d;
      fits = λ e. absurd (true≢false (sym e ∙ p));
      rest = h;
      inside = λ ls i. i;
    }
left_behind fault q due d ts f p h = absurd h
