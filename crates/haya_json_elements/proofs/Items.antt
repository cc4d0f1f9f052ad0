-- The tokens of a text that is a value, and of lines that are items or members.
use Rattle.std.proofs.Common.{◌≡◌, ℕ, ◌≤◌, List, [], ◌∷◌, map, Option, Some, None, option_and_then, is_some, refl, sym, ap, ◌∙◌, append-nil, arith}
use Rattle.std.proofs.lemmas.Bool.{false≢true}
use Rattle.json.specs.Token.{Token}
use Rattle.json.specs.Json.{Json, Items, no_items, item, Members, no_members, member, value, if_last, document}
use Rattle.json.specs.Lex.{tokens}
use Rattle.json.specs.Tree.{json_tokens, depth, items_depth, members_depth}
use Rattle.json.proofs.Nesting.{value-depth}
use Rattle.json.proofs.Printed.Trees.{value-json_tokens}
use Rattle.json.proofs.Unique.Spelling.{value-json_tokens_back}
use Rattle.haya_json_elements.specs.Elements.{AreItems, AreMembers}
use Rattle.haya_json_elements.proofs.Rests.{item_tokens, member_tokens}

-- Tokens that are read whole as a value are those of the value.
read_tokens : (n : ℕ) (ts : List Token) (j : Json) → value n ts ≡ Some (j, []) → ts ≡ json_tokens j
read_tokens n ts j h = value-json_tokens_back n ts [] j h ∙ append-nil (json_tokens j)

-- Tokens of a value that nests no deeper than the limit are read whole.
whole_value : (n : ℕ) (ts : List Token) (j : Json) → depth j ≤ n → ts ≡ json_tokens j
    → value n ts ≡ Some (j, [])
whole_value n ts j le e =
    ap (value n) (e ∙ sym (append-nil (json_tokens j))) ∙ value-json_tokens j n [] le

-- ---- the text

-- A text with the tokens of a value is the value.
pub document_of_tokens : (text : List ℕ) (j : Json) → depth j ≤ 128 → tokens text ≡ json_tokens j
    → document text ≡ Some j
document_of_tokens text j le e =
    ap (option_and_then (λ p. if_last p.0 p.1)) (whole_value 128 (tokens text) j le e)

-- A text that is a value is read whole.
read_whole : (o : Option (Json × List Token)) (j : Json)
    → option_and_then (λ p. if_last p.0 p.1) o ≡ Some j
    → o ≡ Some (j, [])
read_whole None j e = absurd (false≢true (ap is_some e))
read_whole (Some (k, [])) j e =
    let is : k ≡ j = cc in
    ap (λ v. Some (v, [])) is
read_whole (Some (k, t ∷ ts)) j e = absurd (false≢true (ap is_some e))

-- A text that is a value has the tokens of the value.
pub tokens_of_document : (text : List ℕ) (j : Json) → document text ≡ Some j
    → (tokens text ≡ json_tokens j) × (depth j ≤ 128)
tokens_of_document text j e =
    let read = read_whole (value 128 (tokens text)) j e in
    (read_tokens 128 (tokens text) j read, value-depth 128 (tokens text) [] j read)

-- ---- lines

-- Lines that are items have the tokens of these items,
pub tokens_of_items : (ls : List (List ℕ)) (js : Items) → AreItems ls js
    → (map tokens ls ≡ item_tokens js) × (items_depth js ≤ 127)
tokens_of_items [] no_items h = (refl, omega arith)
tokens_of_items [] (item j js) h = absurd h
tokens_of_items (l ∷ ls) no_items h = absurd h
tokens_of_items (l ∷ ls) (item j js) h =
    let first = read_tokens 127 (tokens l) j h.0 in
    let depth_first = value-depth 127 (tokens l) [] j h.0 in
    let rest = tokens_of_items ls js h.1 in
    ((λ i. first i ∷ rest.0 i), omega (arith, depth_first, rest.1))

-- and lines that are members have those of these members.
pub tokens_of_members : (ls : List (List ℕ)) (ms : Members) → AreMembers ls ms
    → (map tokens ls ≡ member_tokens ms) × (members_depth ms ≤ 127)
tokens_of_members [] no_members h = (refl, omega arith)
tokens_of_members [] (member k j ms) h = absurd h
tokens_of_members (l ∷ ls) no_members h = absurd h
tokens_of_members (l ∷ ls) (member k j ms) h =
    let said = read_tokens 127 h.0.left j h.0.said in
    let first = h.0.named ∙ ap (λ ts. Token.key k ∷ ts) said in
    let depth_first = value-depth 127 h.0.left [] j h.0.said in
    let rest = tokens_of_members ls ms h.1 in
    ((λ i. first i ∷ rest.0 i), omega (arith, depth_first, rest.1))

-- Lines with the tokens of items are these items,
pub items_of_tokens : (ls : List (List ℕ)) (js : Items) → items_depth js ≤ 127
    → map tokens ls ≡ item_tokens js → AreItems ls js
items_of_tokens [] no_items le e = tt
items_of_tokens [] (item j js) le e = absurd cc
items_of_tokens (l ∷ ls) no_items le e = absurd cc
items_of_tokens (l ∷ ls) (item j js) le e =
    let first : tokens l ≡ json_tokens j = cc in
    let rest : map tokens ls ≡ item_tokens js = cc in
    (whole_value 127 (tokens l) j (omega arith) first, items_of_tokens ls js (omega arith) rest)

-- and lines with those of members are these members.
pub members_of_tokens : (ls : List (List ℕ)) (ms : Members) → members_depth ms ≤ 127
    → map tokens ls ≡ member_tokens ms → AreMembers ls ms
members_of_tokens [] no_members le e = tt
members_of_tokens [] (member k j ms) le e = absurd cc
members_of_tokens (l ∷ ls) no_members le e = absurd cc
members_of_tokens (l ∷ ls) (member k j ms) le e =
    let first : tokens l ≡ Token.key k ∷ json_tokens j = cc in
    let rest : map tokens ls ≡ member_tokens ms = cc in
    let said = whole_value 127 (json_tokens j) j (omega arith) refl in (
      record { left = json_tokens j; named = first; said = said },
      members_of_tokens ls ms (omega arith) rest,
    )
