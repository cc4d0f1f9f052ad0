-- Each member of a name is read, or told, and so is each name of a list.
use Rattle.std.specs.Prelude.{◌≡◌, ◌⊎◌, ℕ, false, List, ◌++◌, Some, codes, IsSomeAnd, IsTrue, ⊤}
use Rattle.std.specs.List.{Contains}
use Rattle.json.specs.Json as json
use Rattle.json.specs.Json.{Items, Json, Members, array, object}
use Rattle.json.specs.Find.{is_null}
use Rattle.haya_text.specs.Printing.{text_display}
use Rattle.haya_people.specs.Person.{PersonView}
use Rattle.haya_json.specs.Notes.{LostView, lost_behind, lost_here, unread}
use Rattle.haya_json.specs.Refusal.{to_item}
use Rattle.haya_json.specs.declared.fault.Why.TheVariants.{Missing}
use Rattle.haya_csl.specs.Markup.{markup_read}
use Rattle.haya_csl.specs.Names.{name_said, names_said, part_said, truth_said}
use Rattle.haya_csl.specs.ReadOrTold.{IsTold, LeavesNone}

-- ---- the members of a name

-- a person has this text: as the name, the given name or the suffix, or in the prefix
abbrev pub HasText : PersonView → List ℕ → Type 0
HasText p v =
    (p.name ≡ v)
    ⊎ ((p.given_name ≡ Some v)
    ⊎ ((p.suffix ≡ Some v)
    ⊎ IsSomeAnd p.prefix (λ prefix.
    (front : List ℕ) × (back : List ℕ) × (prefix ≡ front ++ (v ++ back)))))

-- the person has what a member says
abbrev pub HasPart : List ℕ → Json → PersonView → Type 0
HasPart name j p =
    IsSomeAnd (part_said j).value (HasText p)
    ⊎ ((name ≡ codes "comma-suffix") × ((truth_said j).value ≡ Some p.comma_suffix))

-- a text is empty, or of markup alone; or a comma is said not to be there
abbrev pub SaysNoPart : List ℕ → Json → Type 0
SaysNoPart name j =
    LeavesNone (λ text. text_display (markup_read text)) j
    ⊎ ((name ≡ codes "comma-suffix") × ((truth_said j).value ≡ Some false))

-- something is lost, and told under the name of the member; or it is told that a name is missing
abbrev pub IsPartTold : List ℕ → List LostView → Type 0
IsPartTold name lost = IsTold name lost ⊎ Contains lost (lost_here (unread Missing))

-- A member of a name is as if it weren't there, or the person has what it says, or it is told.
abbrev pub PartIsReadOrTold : List ℕ → Members → List ℕ → Json → Type 0
PartIsReadOrTold of ms name j =
    let said = name_said of (object ms) in
    IsTrue (is_null j)
    ⊎ (SaysNoPart name j
    ⊎ (IsSomeAnd said.value (HasPart name j) ⊎ IsPartTold name said.lost))

-- ---- lists of names

-- the person whom a name says is among the persons
abbrev pub IsAmong : List ℕ → Items → PersonView → Type 0
IsAmong of js p = IsSomeAnd (names_said of (array js)).value (λ persons. Contains persons p)

-- what is lost of a name is told at its place
abbrev pub TellsAt : List ℕ → Items → ℕ → LostView → Type 0
TellsAt of js n x = Contains (names_said of (array js)).lost (lost_behind (to_item n) x)

-- a name that is in no list: an object of its parts, or a text
abbrev pub IsAlone : Json → Type 0
IsAlone (json.object ms) = ⊤
IsAlone (json.string text) = ⊤
IsAlone _ = ⊥
