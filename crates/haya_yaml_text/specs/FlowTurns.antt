-- What a turn of the reading of items or members in brackets does.
use Rattle.std.specs.Prelude.{◌≡◌, ◌++◌, ℕ, List, [], ◌∷◌, Some}
use Rattle.json.specs.Json.{Json, Items, Members, no_items, no_members, item, member}
use Rattle.json.specs.Token.{Token, end_array, end_object}
use Rattle.haya_yaml_text.specs.Flow.{Found, Reading, found_map, item_behind, member_behind}
use Rattle.haya_yaml_text.specs.Writing.{written_items, written_members}
use Rattle.haya_yaml_text.specs.declared.flow.Passage.{Passage}
use Rattle.haya_yaml_text.specs.declared.flow.Passage.TheVariants.{More, Last}

-- what was written of items so far, and how they go on
abbrev pub ItemTurned : (Reading Items → Found Items) → Passage → List Token → List Token → Type 0
ItemTurned step (More rest) old new =
    (more : Reading Items) → written_items old (step more) ≡ written_items new (more rest.now)
ItemTurned step (Last rest) old new =
    (more : Reading Items) → written_items old (step more) ≡ Some (new, rest.now)

abbrev pub MemberTurned : (Reading Members → Found Members) → Passage → List Token → List Token
    → Type 0
MemberTurned step (More rest) old new =
    (more : Reading Members)
    → written_members old (step more) ≡ written_members new (more rest.now)
MemberTurned step (Last rest) old new =
    (more : Reading Members) → written_members old (step more) ≡ Some (new, rest.now)

-- What follows an item or a member.
abbrev pub ItemEnded : Passage → List Token → List Token → List ℕ → Type 0
ItemEnded (More rest) old new text =
    (more : Reading Items) → (j : Json)
    → (item_behind more j text ≡ found_map (item j) (more rest.now)) × (new ≡ old)
ItemEnded (Last rest) old new text =
    (more : Reading Items) → (j : Json)
    → (item_behind more j text ≡ Some (item j no_items, rest.now)) × (new ≡ old ++ end_array ∷ [])

abbrev pub MemberEnded : Passage → List Token → List Token → List ℕ → Type 0
MemberEnded (More rest) old new text =
    (more : Reading Members) → (k : List ℕ) → (j : Json)
    → (member_behind more k j text ≡ found_map (member k j) (more rest.now)) × (new ≡ old)
MemberEnded (Last rest) old new text =
    (more : Reading Members) → (k : List ℕ) → (j : Json)
    → (member_behind more k j text ≡ Some (member k j no_members, rest.now))
    × (new ≡ old ++ end_object ∷ [])
