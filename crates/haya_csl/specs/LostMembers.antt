-- Members of an item that set nothing.
use Rattle.std.specs.Prelude.{ℕ, ◌||◌, List, Option, None, Some, codes, if◌then◌else◌}
use Rattle.std.specs.Str.{bytes_eq}
use Rattle.json.specs.Json.{Json}
use Rattle.haya_people.specs.Roles.{RoleView}
use Rattle.haya_json.specs.Notes.{LostView, lost_behind, lost_here, named}
use Rattle.haya_json.specs.Refusal.{to_member}
use Rattle.haya_csl.specs.Items.{is_place_again, role_of}
use Rattle.haya_csl.specs.Kinds.{is_empty, kind_of}
use Rattle.haya_csl.specs.Members.{beside, place_of}
use Rattle.haya_csl.specs.declared.members.Choice.{Choice}
use Rattle.haya_csl.specs.declared.members.Choice.TheVariants.{Put, Pass}
use Rattle.haya_csl.specs.declared.members.Place.{Place}

-- ---- the name that a member is told under

abbrev pub name_by_choice : Json → List ℕ → Choice → Option (List ℕ)
name_by_choice item name Pass = Some (beside name item)
name_by_choice item name (Put field) = None

abbrev pub name_by_place : Json → List ℕ → Option Place → Option (List ℕ)
name_by_place item name None = Some name
name_by_place item name (Some place) = name_by_choice item name place.choice

abbrev pub name_by_role : Json → List ℕ → Option RoleView → Option Place → Option (List ℕ)
name_by_role item name (Some role) place = None
name_by_role item name None place = name_by_place item name place

-- A member that isn't empty is told under its name where it has no place in an entry, and under
-- both names where the item has another that is preferred. The key, the type and a place that is
-- said again have none.
abbrev pub told_as : Json → List ℕ → Json → Option (List ℕ)
told_as item name j =
    if is_empty j || (bytes_eq name (codes "id") || (bytes_eq name (codes "citation-key")
    || (bytes_eq name (codes "type") || is_place_again name item j))) then None
    else name_by_role item name (role_of name) (place_of (kind_of item) name item)

-- a member is lost under such a name
abbrev pub lost_as : List ℕ → List ℕ → LostView
lost_as name told = lost_behind (to_member name) (lost_here (named told))
