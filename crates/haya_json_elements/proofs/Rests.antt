-- The tokens of items and members, as elements one behind another.
use Rattle.std.proofs.Common.{◌≡◌, ℕ, ◌+◌, ◌-◌, ◌≤◌, Bool, true, false, not, ◌&&◌, ◌==◌, List, [], ◌∷◌, ◌++◌, refl, sym, ap, subst, append_assoc, append-nil, arith}
use Rattle.std.proofs.lemmas.Bool.{lt-ltb, ne_eqb}
use Rattle.json.specs.Token.{Token}
use Rattle.json.specs.Json.{Json, Items, no_items, item, Members, no_members, member}
use Rattle.json.specs.Tree.{json_tokens, items_tokens, members_tokens, depth, items_depth, members_depth}
use Rattle.haya_json_elements.specs.declared.place.Brackets.{Brackets}
use Rattle.haya_json_elements.specs.declared.place.Brackets.TheVariants.{Square, Curly}
use Rattle.haya_json_elements.proofs.Bracketed.{close_token}
use Rattle.haya_json_elements.proofs.TokenKinds.{IsRest, IsElement, AreElements}

-- ---- a value is what is due

-- one bracket more is no bracket less
some_more : (d : ℕ) → (d + 1 == 0) ≡ false
some_more d = ne_eqb (d + 1) 0 (λ e. omega arith)

-- a closing bracket behind what an open one holds
closes_one : (d : ℕ) (more : List Token) → IsRest false d more → IsRest false (d + 1 - 1) more
closes_one d more h =
    let same : d ≡ d + 1 - 1 = omega arith in
    subst (λ n. IsRest false n more) same h

mutual
  -- The tokens of a value, in front of what is left behind it,
  IsRest-value : (j : Json) (due : Bool) (d : ℕ) (more : List Token) → depth j + d ≤ 128
      → (not due && (d == 0)) ≡ false → IsRest false d more → IsRest due d (json_tokens j ++ more)
  IsRest-value Json.null due d more le p h = (p, h)
  IsRest-value (Json.boolean b) due d more le p h = (p, h)
  IsRest-value (Json.number s) due d more le p h = (p, h)
  IsRest-value (Json.string s) due d more le p h = (p, h)
  IsRest-value (Json.array js) due d more le p h =
      (p, (lt-ltb d 128 (omega arith), IsRest-items js d more (omega arith) h))
  IsRest-value (Json.object ms) due d more le p h =
      (p, (lt-ltb d 128 (omega arith), IsElement-members ms d more (omega arith) h))

  -- those of items with their closing bracket,
  IsRest-items : (js : Items) (d : ℕ) (more : List Token) → items_depth js + (d + 1) ≤ 128
      → IsRest false d more → IsRest false (d + 1) (items_tokens js ++ more)
  IsRest-items no_items d more le h = (some_more d, (some_more d, closes_one d more h))
  IsRest-items (item j js) d more le h =
      let rest = IsRest-items js d more (omega arith) h in
      subst (IsRest false (d + 1)) (sym (append_assoc (json_tokens j) (items_tokens js) more))
      (IsRest-value j false (d + 1) (items_tokens js ++ more) (omega arith) (some_more d) rest)

  -- and those of members with theirs.
  IsElement-members : (ms : Members) (d : ℕ) (more : List Token) → members_depth ms + (d + 1) ≤ 128
      → IsRest false d more → IsRest false (d + 1) (members_tokens ms ++ more)
  IsElement-members no_members d more le h = (some_more d, (some_more d, closes_one d more h))
  IsElement-members (member k j ms) d more le h =
      let rest = IsElement-members ms d more (omega arith) h in
      let some = some_more d in
      let value =
      IsRest-value j false (d + 1) (members_tokens ms ++ more) (omega arith) some rest in
      let joined = append_assoc (json_tokens j) (members_tokens ms) more in
      (some, subst (IsRest false (d + 1)) (sym joined) value)

-- The tokens of a value are an element,
pub IsElement-item : (j : Json) → depth j ≤ 127 → IsElement (json_tokens j)
IsElement-item j le =
    subst IsElement (append-nil (json_tokens j))
    (IsRest-value j true 0 [] (omega arith) refl (refl, refl))

-- and so are those of a name with a value.
pub IsElement-member : (k : List ℕ) (j : Json) → depth j ≤ 127
    → IsElement (Token.key k ∷ json_tokens j)
IsElement-member k j le = (refl, IsElement-item j le)

-- ---- elements one behind another

-- the tokens of these elements, and of the bracket that closes
abbrev pub all_tokens : Brackets → List (List Token) → List Token
all_tokens b [] = close_token b ∷ []
all_tokens b (ts ∷ tss) = ts ++ all_tokens b tss

-- the tokens of each item
abbrev pub item_tokens : Items → List (List Token)
item_tokens no_items = []
item_tokens (item j js) = json_tokens j ∷ item_tokens js

-- the tokens of each member
abbrev pub member_tokens : Members → List (List Token)
member_tokens no_members = []
member_tokens (member k j ms) = (Token.key k ∷ json_tokens j) ∷ member_tokens ms

-- Those of all items are those of an array behind its bracket,
pub all_tokens-items : (js : Items) → items_tokens js ≡ all_tokens Square (item_tokens js)
all_tokens-items no_items = refl
all_tokens-items (item j js) = ap (λ ts. json_tokens j ++ ts) (all_tokens-items js)

-- and those of all members are those of an object behind its bracket.
pub all_tokens-members : (ms : Members) → members_tokens ms ≡ all_tokens Curly (member_tokens ms)
all_tokens-members no_members = refl
all_tokens-members (member k j ms) =
    ap (λ ts. Token.key k ∷ (json_tokens j ++ ts)) (all_tokens-members ms)

-- Each item is an element,
pub AreElements-items : (js : Items) → items_depth js ≤ 127 → AreElements (item_tokens js)
AreElements-items no_items le = tt
AreElements-items (item j js) le =
    (IsElement-item j (omega arith), AreElements-items js (omega arith))

-- and so is each member.
pub AreElements-members : (ms : Members) → members_depth ms ≤ 127 → AreElements (member_tokens ms)
AreElements-members no_members le = tt
AreElements-members (member k j ms) le =
    (IsElement-member k j (omega arith), AreElements-members ms (omega arith))
