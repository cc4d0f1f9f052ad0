-- The entry that a JSON value says, and what is lost of the value.
use Rattle.std.specs.Prelude.{ℕ, ◌+◌, ◌&&◌, ◌++◌, List, [], ◌∷◌, Option, None, Some, is_some, option_and_then, unwrap_or, Result, Ok, Err, codes, if◌then◌else◌}
use Rattle.std.specs.Result.{result_ok}
use Rattle.std.specs.Str.{bytes_eq}
use Rattle.json.specs.Json as json
use Rattle.json.specs.Json.{Json, Items, Members}
use Rattle.json.specs.Find.{is_null}
use Rattle.haya_entry.specs.EntryType.{type_read}
use Rattle.haya_entry.specs.ParentTypes.{default_parent}
use Rattle.haya_entry.specs.Tree.{Tree, new_entry, with_parents}
use Rattle.haya_entry.specs.declared.types.EntryType.{EntryType}
use Rattle.haya_entry.specs.declared.types.EntryType.TheVariants.{Misc}
use Rattle.haya_json.specs.Notes.{LostView, all_behind, lost_behind, lost_here, lost_of, refusal_lost, unread}
use Rattle.haya_json.specs.Refusal.{Refusal, refused, and_then, to_member, to_item}
use Rattle.haya_json.specs.Parts.{text_in, plain_of, read_by, member_of}
use Rattle.haya_json.specs.Fields.{EntryView, entry_alone, with_field}
use Rattle.haya_json.specs.declared.fault.Why.TheVariants.{NotObject, NotEntries, Missing, UnknownType}

-- The type of an entry that says none, or none that is read: of a parent the type that the entry
-- below it has parents of. An entry of a library has none.
abbrev pub Default : Type 0
Default = Option EntryType

-- ---- the type and the key

-- the type of this name
abbrev pub type_of : Json → Result EntryType Refusal
type_of j = read_by UnknownType type_read j

abbrev pub kind_in : Default → Option Json → EntryType
kind_in default None = unwrap_or default Misc
kind_in default (Some j) = unwrap_or (result_ok (type_of j)) (unwrap_or default Misc)

-- the type that an object says its entry has; otherwise the default, and Misc where there is none
abbrev pub kind_of : Default → Json → EntryType
kind_of default j = kind_in default (member_of (codes "type") j)

abbrev pub missing_in : Default → Option Json → List LostView
missing_in None None = lost_behind (to_member (codes "type")) (lost_here (unread Missing)) ∷ []
missing_in _ _ = []

-- an entry of a library that says no type lacks it
abbrev pub type_missing : Default → Json → List LostView
type_missing default j = missing_in default (member_of (codes "type") j)

-- the key that a parent has of its own: the text of its member `key`
abbrev pub own_key : Default → Json → Option (List ℕ)
own_key default j =
    if is_some default then option_and_then text_in (member_of (codes "key") j) else None

-- the key of an entry: its own, or otherwise that of the entry below it or that of the library
abbrev pub key_among : List ℕ → Default → Json → List ℕ
key_among key default j = unwrap_or (own_key default j) key

-- ---- members

-- parents, and what is lost of the JSON that they are read of
pub record ParentsView : Type 0 where
  pub entries : List Tree
  pub lost : List LostView

-- The entry after one of its members, and what is lost of the member: `type` was read before, and so
-- was the `key` of a parent; `parent` sets the parents that the value reads as, and any other name
-- its field. A null sets nothing.
abbrev pub with_member : Default → List ℕ → Json → ParentsView → Tree → EntryView
with_member default name j parents t =
    if is_null j then entry_alone t
    else if bytes_eq name (codes "type") then record { entry = t; lost = refusal_lost (type_of j) }
    else if bytes_eq name (codes "parent")
    then record { entry = with_parents parents.entries t; lost = parents.lost }
    else if bytes_eq name (codes "key") && is_some default
    then record { entry = t; lost = refusal_lost (plain_of j) }
    else with_field name j t

-- the same after what was lost so far, as it is seen from the entry
abbrev pub after_member : List ℕ → List LostView → EntryView → EntryView
after_member name lost v =
    record { entry = v.entry; lost = lost ++ all_behind (to_member name) v.lost }

-- ---- parents

-- one parent alone
abbrev pub one_parent : EntryView → ParentsView
one_parent v = record { entries = v.entry ∷ []; lost = v.lost }

-- the parent that the item at this place says, before others; an item that says none is lost
abbrev pub with_item : ℕ → Result EntryView Refusal → ParentsView → ParentsView
with_item n (Ok v) ps = record {
  entries = v.entry ∷ ps.entries;
  lost = all_behind (to_item n) v.lost ++ ps.lost;
}
with_item n (Err r) ps = record {
  entries = ps.entries;
  lost = lost_behind (to_item n) (lost_of r) ∷ ps.lost;
}

-- the same behind others
abbrev pub item_added : ℕ → Result EntryView Refusal → ParentsView → ParentsView
item_added n (Ok v) ps = record {
  entries = ps.entries ++ v.entry ∷ [];
  lost = ps.lost ++ all_behind (to_item n) v.lost;
}
item_added n (Err r) ps = record {
  entries = ps.entries;
  lost = ps.lost ++ lost_behind (to_item n) (lost_of r) ∷ [];
}

-- ---- entries

-- A new entry, before its members are set in turn.
abbrev pub entry_begun : List ℕ → Default → Json → EntryView
entry_begun key default j =
    record { entry = new_entry key (kind_of default j); lost = type_missing default j }

-- An entry under this key, and what is lost of it: an object, whose type is the one that it names or
-- else the default.
abbrev mutual
  pub entry_said : List ℕ → Default → Json → Result EntryView Refusal
  entry_said key default (json.object ms) =
      let own = key_among key default (json.object ms) in
      Ok (members_said own default (kind_of default (json.object ms)) ms
      (entry_begun own default (json.object ms)))
  entry_said key default _ = refused NotObject

  -- the members are set in turn
  pub members_said : List ℕ → Default → EntryType → Members → EntryView → EntryView
  members_said key default kind json.no_members v = v
  members_said key default kind (json.member k j ms) v =
      members_said key default kind ms
      (after_member k v.lost
      (with_member default k j (parents_said key (default_parent kind) j) v.entry))

  -- one parent alone, or an array of them
  pub parents_said : List ℕ → EntryType → Json → ParentsView
  parents_said key default (json.array js) = items_said key default 0 js
  parents_said key default (json.object ms) =
      let own = key_among key (Some default) (json.object ms) in
      one_parent (members_said own (Some default) (kind_of (Some default) (json.object ms)) ms
      (entry_begun own (Some default) (json.object ms)))
  parents_said key default _ =
      record { entries = []; lost = lost_here (unread NotEntries) ∷ [] }

  -- the same of items, the first of which is at this place
  pub items_said : List ℕ → EntryType → ℕ → Items → ParentsView
  items_said key default n json.no_items = record { entries = []; lost = [] }
  items_said key default n (json.item j js) =
      with_item n (entry_said key (Some default) j) (items_said key default (n + 1) js)

-- the entry alone
abbrev pub entry_of : List ℕ → Default → Json → Result Tree Refusal
entry_of key default j = and_then (entry_said key default j) (λ v. Ok v.entry)
