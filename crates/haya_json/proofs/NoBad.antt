-- The tokens of a value are those of a text without a fault.
use Rattle.std.proofs.Common.{◌++◌, List, [], ◌∷◌}
use Rattle.std.specs.Prelude.{⊤}
use Rattle.json.specs.Token.{Token}
use Rattle.json.specs.Json.{Json, null, boolean, number, string, array, object, Items, no_items, item, Members, no_members, member}
use Rattle.json.specs.Tree.{json_tokens, items_tokens, members_tokens}

abbrev IsGood : Token → Type 0
IsGood Token.bad = ⊥
IsGood t = ⊤

-- no token says a fault
abbrev pub NoBad : List Token → Type 0
NoBad [] = ⊤
NoBad (t ∷ ts) = IsGood t × NoBad ts

NoBad-append : (ts us : List Token) → NoBad ts → NoBad us → NoBad (ts ++ us)
NoBad-append [] us h k = k
NoBad-append (t ∷ ts) us h k = (h.0, NoBad-append ts us h.1 k)

pub bad_among : (ts us : List Token) → NoBad (ts ++ Token.bad ∷ us) → ⊥
bad_among [] us h = h.0
bad_among (t ∷ ts) us h = bad_among ts us h.1

mutual
  pub NoBad-json_tokens : (j : Json) → NoBad (json_tokens j)
  NoBad-json_tokens null = (tt, tt)
  NoBad-json_tokens (boolean b) = (tt, tt)
  NoBad-json_tokens (number s) = (tt, tt)
  NoBad-json_tokens (string s) = (tt, tt)
  NoBad-json_tokens (array js) = (tt, NoBad-items_tokens js)
  NoBad-json_tokens (object ms) = (tt, NoBad-members_tokens ms)

  NoBad-items_tokens : (js : Items) → NoBad (items_tokens js)
  NoBad-items_tokens no_items = (tt, tt)
  NoBad-items_tokens (item j js) = NoBad-append _ _ (NoBad-json_tokens j) (NoBad-items_tokens js)

  NoBad-members_tokens : (ms : Members) → NoBad (members_tokens ms)
  NoBad-members_tokens no_members = (tt, tt)
  NoBad-members_tokens (member k j ms) = (tt, NoBad-append _ _ (NoBad-json_tokens j) (NoBad-members_tokens ms))
