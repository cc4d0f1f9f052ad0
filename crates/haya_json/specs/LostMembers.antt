-- What is lost of the members of an entry, and which libraries are refused.
use Rattle.std.specs.Prelude.{◌≡◌, ◌⊎◌, ℕ, List}
use Rattle.std.specs.List.{Contains}
use Rattle.json.specs.Json as json
use Rattle.json.specs.Json.{Json, Members}
use Rattle.haya_entry.specs.ParentTypes.{default_parent}
use Rattle.haya_entry.specs.Tree.{Tree}
use Rattle.haya_json.specs.Entries.{Default, key_among, kind_of, parents_said, with_member}
use Rattle.haya_json.specs.Fields.{EntryView}
use Rattle.haya_json.specs.Notes.{LostView, lost_behind}
use Rattle.haya_json.specs.Refusal.{Refusal, from_outside, here, to_member}
use Rattle.haya_json.specs.declared.fault.Why.TheVariants.{NotObject}

-- one of the members has this name and this value
abbrev pub HasMember : Members → List ℕ → Json → Type 0
HasMember json.no_members name j = ⊥
HasMember (json.member k i ms) name j = ((k ≡ name) × (i ≡ j)) ⊎ HasMember ms name j

-- what a member of an object makes of an entry, and what is lost of the member
abbrev pub member_said : List ℕ → Default → Members → List ℕ → Json → Tree → EntryView
member_said key default ms name j t =
    let item = json.object ms in
    let parents = parents_said (key_among key default item) (default_parent (kind_of default item)) j in
    with_member default name j parents t

-- all of this is lost under the name of a member
abbrev pub LosesUnder : EntryView → List ℕ → List LostView → Type 0
LosesUnder said name losts =
    (x : LostView) → Contains losts x → Contains said.lost (lost_behind (to_member name) x)

-- the library is no object, or its entry under this key is none
abbrev pub RefusesLibrary : Refusal → Type 0
RefusesLibrary r =
    (r ≡ here NotObject)
    ⊎ ((key : List ℕ) × (r ≡ from_outside (to_member key) (here NotObject)))
