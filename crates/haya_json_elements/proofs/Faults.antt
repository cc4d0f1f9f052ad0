-- What lexemes of good tokens are.
use Rattle.std.proofs.Common.{◌≡◌, Bool, List, [], ◌∷◌, refl, sym, subst}
use Rattle.std.specs.Prelude.{⊤}
use Rattle.json.specs.Token.{Token}
use Rattle.json.specs.Lex.{Lexeme, token, comma, colon, Place, fresh, after_value, after_comma, after_key, begins_colon, place_token, punctuate}
use Rattle.haya_json_elements.proofs.TokenKinds.{Kind, opener, closer, scalar, member_name, fault, kind, IsSound, AreGood, place_behind, spelled_kind}
use Rattle.haya_json_elements.proofs.TokenPlaces.{places, some_token}

-- the lexeme is no fault in front of these: no bad token, and no comma at the end
abbrev pub IsFine : Lexeme → List Lexeme → Type 0
IsFine (token t) ls = IsSound (kind t)
IsFine comma [] = ⊥
IsFine comma (l ∷ ls) = ⊤
IsFine colon ls = ⊤

-- no lexeme is a fault in front of the others
abbrev pub AreFine : List Lexeme → Type 0
AreFine [] = ⊤
AreFine (l ∷ ls) = IsFine l ls × AreFine ls

IsSound-spelled_kind : (k : Kind) → IsSound k → IsSound (spelled_kind k)
IsSound-spelled_kind opener h = tt
IsSound-spelled_kind closer h = tt
IsSound-spelled_kind scalar h = tt
IsSound-spelled_kind member_name h = tt
IsSound-spelled_kind fault h = absurd h

-- the lexeme is no fault, and the tokens behind it are good
record GoodBehind (t : Token) (k : Place → List Token) : Type 0 where
  sound : IsSound (kind t)
  next : Place
  good : AreGood (k next)

good_behind : (q : Place) (t : Token) (before : Bool) (k : Place → List Token) (ts : List Token)
    → place_token q t before k ≡ ts → AreGood ts → GoodBehind t k
good_behind q t before k [] e h = absurd (some_token q t before k e)
good_behind q t before k (x ∷ left) e h =
    let p = places k x left h.0 q t before e in
    record {
      sound = subst IsSound (sym p.spells) (IsSound-spelled_kind (kind x) h.0);
      next = place_behind (kind x);
      good = subst AreGood p.front.is_left h.1;
    }

-- Lexemes whose tokens are good are fine.
pub fine : (p : Place) (ls : List Lexeme) → AreGood (punctuate p ls) → AreFine ls
unfolding punctuate
fine p [] h = tt
fine p (token t ∷ ls) h =
    let o = good_behind p t (begins_colon ls) (λ n. punctuate n ls) _ refl h in
    (o.sound, fine o.next ls o.good)
fine fresh (comma ∷ ls) h = absurd h.0
fine after_value (comma ∷ []) h = absurd h.0
fine after_value (comma ∷ (l ∷ ls)) h = (tt, fine after_comma (l ∷ ls) h)
fine after_comma (comma ∷ ls) h = absurd h.0
fine after_key (comma ∷ ls) h = absurd h.0
fine fresh (colon ∷ ls) h = absurd h.0
fine after_value (colon ∷ ls) h = absurd h.0
fine after_comma (colon ∷ ls) h = absurd h.0
fine after_key (colon ∷ ls) h = (tt, fine fresh ls h)
