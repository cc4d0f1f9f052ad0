-- Parts that each say a member.
use Rattle.std.proofs.Common.{◌≡◌, ℕ, List, [], ◌∷◌, Some}
use Rattle.std.specs.List.{AllZip}
use Rattle.json.specs.Json.{Members, document, member, no_members, object}
use Rattle.haya_json_elements.specs.Elements.{AreMembers}
use Rattle.haya_json_elements.specs.declared.place.Brackets.TheVariants.{Curly}
use Rattle.haya_slices.specs.Layout.{IsLaidOut}
use Rattle.haya_yaml_slices.specs.Members.{SayEach, SaysMember}

-- a text whose parts are members is their object
abbrev pub MakesObjects : Type 0
MakesObjects = (text : List ℕ) (parts : List (List ℕ)) (ms : Members) → IsLaidOut Curly text parts → AreMembers parts ms → document text ≡ Some (object ms)

pub each_says : MakesObjects → (parts members : List (List ℕ)) (ms : Members) → AllZip SaysMember parts members → AreMembers members ms → SayEach parts ms
each_says make [] [] no_members said are = tt
each_says make [] [] (member name j ms) said are = absurd are
each_says make [] (m ∷ members) ms said are = absurd said
each_says make (part ∷ parts) [] ms said are = absurd said
each_says make (part ∷ parts) (m ∷ members) no_members said are = absurd are
each_says make (part ∷ parts) (m ∷ members) (member name j ms) said are =
    let first = said.0 in (
      (first.same.same (object (member name j no_members))).0 (make first.json (m ∷ []) (member name j no_members) first.laid_out (are.0, tt)),
      each_says make parts members ms said.1 are.1,
    )

-- the parts of a text that is an object are its members
abbrev pub TellsMembers : Type 0
TellsMembers = (text : List ℕ) (parts : List (List ℕ)) (ms : Members) → IsLaidOut Curly text parts → document text ≡ Some (object ms) → AreMembers parts ms

pub members_are : TellsMembers → (parts members : List (List ℕ)) (ms : Members) → AllZip SaysMember parts members → SayEach parts ms → AreMembers members ms
members_are tell [] [] no_members said each = tt
members_are tell [] [] (member name j ms) said each = absurd each
members_are tell [] (m ∷ members) ms said each = absurd said
members_are tell (part ∷ parts) [] ms said each = absurd said
members_are tell (part ∷ parts) (m ∷ members) no_members said each = absurd each
members_are tell (part ∷ parts) (m ∷ members) (member name j ms) said each =
    let first = said.0 in
    let read : document first.json ≡ Some (object (member name j no_members)) =
    (first.same.same (object (member name j no_members))).1 each.0 in (
      (tell first.json (m ∷ []) (member name j no_members) first.laid_out read).0,
      members_are tell parts members ms said.1 each.1,
    )
