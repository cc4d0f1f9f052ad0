-- The member that a line is.
use Rattle.std.proofs.Common.{◌≡◌, ℕ, List, [], ◌∷◌, Option, None, Some, option_map, refl, sym, ap, ◌∙◌}
use Rattle.json.specs.Json.{Json, value}
use Rattle.json.specs.Lex.{tokens}
use Rattle.json.specs.Token.{Token}
use Rattle.haya_json_elements.specs.Elements.{IsMember}
use Rattle.haya_json.specs.Alone.{value_alone}
use Rattle.haya_json.specs.MemberLines.{member_in, single_object, single_object_in}
use Rattle.haya_json.proofs.ValuesAlone.{alone, one_read}

-- a line is one member at most
pub one_member : (line n m : List ℕ) (i j : Json) → IsMember line n i → IsMember line m j → (n ≡ m) × (i ≡ j)
one_member line n m i j a b =
    let same : Token.key n ∷ a.left ≡ Token.key m ∷ b.left = sym a.named ∙ b.named in
    let left : a.left ≡ b.left = cc in
    let name : n ≡ m = cc in
    (name, one_read (value 127 a.left) i j a.said (ap (value 127) left ∙ b.said))

-- the object of the member that a line is, as it is computed
pub member_of_line : (line name : List ℕ) (j : Json) → IsMember line name j → member_in line ≡ Some (single_object name j)
member_of_line line name j is = rw is.named (rw is.said refl)

-- the tokens are this name and this value
record IsNamed (ts : List Token) (name : List ℕ) (j : Json) : Type 0 where
  left : List Token
  named : ts ≡ Token.key name ∷ left
  said : value 127 left ≡ Some (j, [])

-- behind a name
named_value : (k name : List ℕ) (j : Json) (left : List Token) → option_map (single_object k) (value_alone left) ≡ Some (single_object name j) → IsNamed (Token.key k ∷ left) name j
named_value k name j left h = by (value_alone left) refl h
  where
    by : (o : Option Json) → value_alone left ≡ o → option_map (single_object k) o ≡ Some (single_object name j) → IsNamed (Token.key k ∷ left) name j
    by None none g = cc
    by (Some i) some g =
        let same_name : k ≡ name = cc in
        let same : i ≡ j = cc in
        record {
          left = left;
          named = ap (λ n. Token.key n ∷ left) same_name;
          said = alone (value 127 left) j (some ∙ ap Some same);
        }

-- tokens that are found to be a member
named : (ts : List Token) (name : List ℕ) (j : Json) → single_object_in ts ≡ Some (single_object name j) → IsNamed ts name j
named [] name j h = cc
named (Token.begin_object ∷ ts) name j h = cc
named (Token.end_object ∷ ts) name j h = cc
named (Token.begin_array ∷ ts) name j h = cc
named (Token.end_array ∷ ts) name j h = cc
named (Token.key k ∷ ts) name j h = named_value k name j ts h
named (Token.string s ∷ ts) name j h = cc
named (Token.number s ∷ ts) name j h = cc
named (Token.boolean b ∷ ts) name j h = cc
named (Token.null ∷ ts) name j h = cc
named (Token.bad ∷ ts) name j h = cc

-- the member that a line is found to be
pub member_found : (line name : List ℕ) (j : Json) → member_in line ≡ Some (single_object name j) → IsMember line name j
member_found line name j h = let is = named (tokens line) name j h in record { left = is.left; named = is.named; said = is.said }
