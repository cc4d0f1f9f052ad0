-- The entry of an item, with the parents that it makes, and what is lost of the item.
use Rattle.std.specs.Prelude.{ℕ, Bool, false, not, ◌&&◌, ◌||◌, List, [], ◌∷◌, ◌++◌, Option, None, Some, is_some, option_and_then, Result, Ok, codes, if◌then◌else◌}
use Rattle.std.specs.Map.{lookup}
use Rattle.std.specs.Option.{option_map_or}
use Rattle.std.specs.Str.{bytes_eq}
use Rattle.json.specs.Json as json
use Rattle.json.specs.Json.{Json, Members}
use Rattle.haya_people.specs.Roles.{RoleView, role_view}
use Rattle.haya_people.specs.declared.role.PersonRole.TheVariants as role
use Rattle.haya_entry.specs.Tree.{Tree, new_entry, with_parents}
use Rattle.haya_entry.specs.declared.types.EntryType.{EntryType}
use Rattle.haya_entry.specs.declared.types.EntryType.TheVariants as type
use Rattle.haya_json.specs.Fields.{EntryView}
use Rattle.haya_json.specs.Notes.{LossView, LostView, all_behind, lost_here, named, unread}
use Rattle.haya_json.specs.Refusal.{Refusal, refused, within, and_then, to_member}
use Rattle.haya_json.specs.Parts.{bytes_of, needed_in, text_in}
use Rattle.haya_json.specs.declared.fault.Why.TheVariants.{NotObject, NotText, UnknownType}
use Rattle.haya_csl.specs.Fields.{SetView, Setter, role_setter, setter_of}
use Rattle.haya_csl.specs.Kinds.{filled, has, is_empty, kind_named, kind_of, text_at}
use Rattle.haya_csl.specs.Members.{beside, place_of}
use Rattle.haya_csl.specs.declared.item_key.ItemKey.{ItemKey}
use Rattle.haya_csl.specs.declared.item_key.ItemKey.TheVariants.{CitationKey, Id}
use Rattle.haya_csl.specs.declared.kinds.Kind.{Kind}
use Rattle.haya_csl.specs.declared.members.Choice.{Choice}
use Rattle.haya_csl.specs.declared.members.Choice.TheVariants.{Put, Pass}
use Rattle.haya_csl.specs.declared.members.Level.{Level}
use Rattle.haya_csl.specs.declared.members.Level.TheVariants as level
use Rattle.haya_csl.specs.declared.members.Place.{Place}

-- ---- the key

-- the text of `id`, which has to be there
abbrev pub id_of : Json → Result (List ℕ) Refusal
id_of item = within (to_member (codes "id")) (needed_in bytes_of (filled (codes "id") item))

-- the text of `citation-key`, if it has one
abbrev pub citation_key_of : Json → Option (List ℕ)
citation_key_of item = option_and_then text_in (filled (codes "citation-key") item)

-- a text, or what is read where there is none
abbrev pub given_or : Option (List ℕ) → Result (List ℕ) Refusal → Result (List ℕ) Refusal
given_or None read = read
given_or (Some text) read = Ok text

-- the key of an item
abbrev pub item_key : ItemKey → Json → Result (List ℕ) Refusal
item_key CitationKey item = given_or (citation_key_of item) (id_of item)
item_key Id item = id_of item

-- ---- the entries that an item makes

-- the item's own entry, and each parent that a member of the item went to: none, or one
pub record DraftView : Type 0 where
  pub own : Tree
  pub host : List Tree
  pub venue : List Tree
  pub series : List Tree
  pub original : List Tree

-- an entry without parents
abbrev pub draft_of : Tree → DraftView
draft_of own = record { own = own; host = []; venue = []; series = []; original = [] }

abbrev pub new_draft : List ℕ → EntryType → DraftView
new_draft key kind = draft_of (new_entry key kind)

-- an entry in these parents, and they alone where there is none
abbrev pub below : List Tree → List Tree → List Tree
below [] parents = parents
below (t ∷ ts) parents = with_parents parents t ∷ ts

-- The item appears in its host, that in the event, and that in the series, as far as they are made.
-- The original comes last among the item's parents.
abbrev pub parents_made : DraftView → List Tree
parents_made d = below d.host (below d.venue d.series) ++ d.original

abbrev pub entry_made : DraftView → Tree
entry_made d = with_parents (parents_made d) d.own

-- ---- roles

abbrev pub later_roles : List (List ℕ × RoleView)
later_roles =
    (codes "organizer", role_view role.Organizer)
    ∷ (codes "curator", role_view role.Organizer)
    ∷ (codes "compiler", role_view role.Compiler)
    ∷ (codes "performer", role_view role.CastMember)
    ∷ (codes "script-writer", role_view role.Writer)
    ∷ (codes "contributor", role_view role.Collaborator)
    ∷ []

-- the roles of persons who are neither authors nor editors
abbrev pub role_table : List (List ℕ × RoleView)
role_table =
    (codes "translator", role_view role.Translator)
    ∷ (codes "director", role_view role.Director)
    ∷ (codes "composer", role_view role.Composer)
    ∷ (codes "illustrator", role_view role.Illustrator)
    ∷ (codes "narrator", role_view role.Narrator)
    ∷ (codes "producer", role_view role.Producer)
    ∷ (codes "executive-producer", role_view role.ExecutiveProducer)
    ∷ later_roles

abbrev pub role_of : List ℕ → Option RoleView
role_of name = lookup (bytes_eq name) role_table

-- ---- one member

-- the entries of an item after a member, and what is lost of the member
pub record MemberView : Type 0 where
  pub after : DraftView
  pub lost : List LostView

-- the entries stay as they are, and this is lost
abbrev pub only_lost : List LostView → DraftView → MemberView
only_lost lost d = record { after = d; lost = lost }

-- the value itself is lost
abbrev pub is_lost : LossView → DraftView → MemberView
is_lost loss d = only_lost (lost_here loss ∷ []) d

-- what a value makes of a parent, which is new where there is none yet
abbrev pub parent_set : List ℕ → EntryType → Setter → Json → List Tree → SetView
parent_set key kind set j [] = set j (new_entry key kind)
parent_set key kind set j (t ∷ ts) = set j t

-- the parents after it; one that is new is there only where anything is set on it
abbrev pub parents_after : SetView → List Tree → List Tree
parents_after s [] = if s.is_set then s.after ∷ [] else []
parents_after s (t ∷ ts) = s.after ∷ ts

-- the entries of an item after a value is set at one of them
abbrev pub set_at : Level → List ℕ → Setter → Json → DraftView → MemberView
set_at level.Own key set j d =
    let s = set j d.own in record { after = record d { own = s.after }; lost = s.lost }
set_at (level.Host kind) key set j d =
    let s = parent_set key kind set j d.host in
    record { after = record d { host = parents_after s d.host }; lost = s.lost }
set_at (level.Venue kind) key set j d =
    let s = parent_set key kind set j d.venue in
    record { after = record d { venue = parents_after s d.venue }; lost = s.lost }
set_at level.Series key set j d =
    let s = parent_set key type.Anthology set j d.series in
    record { after = record d { series = parents_after s d.series }; lost = s.lost }
set_at level.Original key set j d =
    let s = parent_set key type.Original set j d.original in
    record { after = record d { original = parents_after s d.original }; lost = s.lost }

-- a member that is passed over is lost beside the one that is preferred
abbrev pub chosen : Level → Choice → List ℕ → List ℕ → Json → Json → DraftView → MemberView
chosen l Pass key name item j d = is_lost (named (beside name item)) d
chosen l (Put field) key name item j d = set_at l key (setter_of field name item) j d

-- the same by the place of the member; one that has none is lost
abbrev pub placed : Option Place → List ℕ → List ℕ → Json → Json → DraftView → MemberView
placed None key name item j d = is_lost (named name) d
placed (Some place) key name item j d = chosen place.level place.choice key name item j d

abbrev pub with_role_or_place : Option RoleView → Option Place → List ℕ → List ℕ → Json → Json
    → DraftView → MemberView
with_role_or_place (Some role) place key name item j d =
    set_at level.Own key (role_setter role name) j d
with_role_or_place None place key name item j d = placed place key name item j d

-- persons with a role, or the field of a member
abbrev pub with_field : Kind → List ℕ → List ℕ → Json → Json → DraftView → MemberView
with_field kind key name item j d =
    with_role_or_place (role_of name) (place_of kind name item) key name item j d

-- a value that has no text is lost
abbrev pub text_lost : Option (List ℕ) → List LostView
text_lost None = lost_here (unread NotText) ∷ []
text_lost (Some text) = []

-- what is lost of a `citation-key`: where it isn't the key, all of it
abbrev pub citation_key_lost : ItemKey → Json → List LostView
citation_key_lost CitationKey j = text_lost (text_in j)
citation_key_lost Id j = lost_here (named (codes "citation-key")) ∷ []

-- what is lost of a `type`: one that is no text, or that CSL doesn't have
abbrev pub type_lost : Option (List ℕ) → Json → List LostView
type_lost None item = lost_here (unread NotText) ∷ []
type_lost (Some name) item =
    if is_some (kind_named name item) then [] else lost_here (unread UnknownType) ∷ []

-- the place of the publisher said again as that of an event, in an item that has no event
abbrev pub is_place_again : List ℕ → Json → Json → Bool
is_place_again name item j =
    bytes_eq name (codes "event-place")
    && (option_map_or (bytes_eq (text_at (codes "publisher-place") item)) (text_in j) false
    && not (has (codes "event-title") item || has (codes "event") item))

-- the entries of an item after one of its members, and what is lost of it
abbrev pub with_member : ItemKey → Kind → List ℕ → List ℕ → Json → Json → DraftView → MemberView
with_member by kind key name item j d =
    if is_empty j then only_lost [] d
    else if bytes_eq name (codes "id") then only_lost [] d
    else if bytes_eq name (codes "citation-key") then only_lost (citation_key_lost by j) d
    else if bytes_eq name (codes "type") then only_lost (type_lost (text_in j) item) d
    else if is_place_again name item j then only_lost [] d
    else with_field kind key name item j d

-- ---- items

-- the same after what was lost so far, as it is seen from the item
abbrev pub after_member : List ℕ → List LostView → MemberView → MemberView
after_member name lost m =
    record { after = m.after; lost = lost ++ all_behind (to_member name) m.lost }

-- after all members in turn
abbrev pub members_set : ItemKey → Kind → List ℕ → Json → Members → MemberView → MemberView
members_set by kind key item json.no_members m = m
members_set by kind key item (json.member k j ms) m =
    members_set by kind key item ms
    (after_member k m.lost (with_member by kind key k item j m.after))

-- what an item says: its entry, and what is lost of it
abbrev pub item_made : MemberView → EntryView
item_made m = record { entry = entry_made m.after; lost = m.lost }

-- the same under this key, which the item's parents have, too
abbrev pub item_under : ItemKey → List ℕ → Json → Members → EntryView
item_under by key item ms =
    let kind = kind_of item in
    item_made (members_set by kind key item ms (only_lost [] (new_draft key kind.entry)))

-- an item is an object that has a key
abbrev pub item_said : ItemKey → Json → Result EntryView Refusal
item_said by (json.object ms) =
    and_then (item_key by (json.object ms)) (λ key. Ok (item_under by key (json.object ms) ms))
item_said by _ = refused NotObject

-- the entry alone
abbrev pub item_of : ItemKey → Json → Result Tree Refusal
item_of by j = and_then (item_said by j) (λ v. Ok v.entry)
