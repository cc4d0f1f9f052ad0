-- Entries that were read, with all their ancestors.
use Rattle.std.proofs.Common.{◌≡◌, ◌+◌, ◌&&◌, ℕ, Bool, true, false, List, [], ◌∷◌, None, Some, Result, Ok, Err, refl, sym, subst}
use Rattle.std.specs.Prelude.{codes, is_some, if◌then◌else◌}
use Rattle.std.specs.Str.{bytes_eq}
use Rattle.json.specs.Json as json
use Rattle.json.specs.Json.{Json, Items, Members}
use Rattle.json.specs.Find.{is_null}
use Rattle.haya_entry.specs.ParentTypes.{default_parent}
use Rattle.haya_entry.specs.Tree.{Tree, Trees, node, no_trees, one_more, fields, tree_list, trees, with_parents}
use Rattle.haya_entry.specs.declared.types.EntryType.{EntryType}
use Rattle.haya_json.specs.Refusal.{Refusal, within, to_member}
use Rattle.haya_json.specs.Parts.{plain_of}
use Rattle.haya_json.specs.Fields.{EntryView, entry_alone, with_field}
use Rattle.haya_json.specs.Notes.{refusal_lost}
use Rattle.haya_json.specs.Entries.{Default, ParentsView, after_member, entry_begun, entry_of, entry_said, items_said, key_among, kind_of, members_said, parents_said, type_of, with_item, with_member}
use Rattle.haya_json.specs.Libraries.{entries_of, library_of}
use Rattle.haya_json.specs.Readable.{TreeIsReadable, TreesAreReadable, EntriesAreReadable}
use Rattle.haya_json.proofs.FieldsRead.{FieldsWereRead, Kept, field_read, fields_readable, none_read}
use Rattle.haya_json.proofs.TextsRead.{HasTexts, ItemsHaveTexts, MembersHaveTexts, both_ok, ok_same, within_ok}
use Rattle.haya_json.proofs.ValuesRead.{ReadAgain}

abbrev mutual
  pub TreeWasRead : Tree → Type 0
  TreeWasRead (node f ps) = FieldsWereRead f × TreesWereRead ps

  pub TreesWereRead : Trees → Type 0
  TreesWereRead no_trees = Unit {0}
  TreesWereRead (one_more t ts) = TreeWasRead t × TreesWereRead ts

abbrev pub EntriesWereRead : List Tree → Type 0
EntriesWereRead [] = Unit {0}
EntriesWereRead (t ∷ ts) = TreeWasRead t × EntriesWereRead ts

mutual
  tree_readable : (t : Tree) → TreeWasRead t → TreeIsReadable t
  tree_readable (node f ps) r = (fields_readable f r.0, trees_readable ps r.1)

  trees_readable : (ts : Trees) → TreesWereRead ts → TreesAreReadable ts
  trees_readable no_trees r = tt
  trees_readable (one_more t ts) r = (tree_readable t r.0, trees_readable ts r.1)

pub entries_readable : (ts : List Tree) → EntriesWereRead ts → EntriesAreReadable ts
entries_readable [] r = tt
entries_readable (t ∷ ts) r = (tree_readable t r.0, entries_readable ts r.1)

-- ---- parents

from_list : (ts : List Tree) → EntriesWereRead ts → TreesWereRead (trees ts)
from_list [] r = tt
from_list (t ∷ ts) r = (r.0, from_list ts r.1)

to_list : (ts : Trees) → TreesWereRead ts → EntriesWereRead (tree_list ts)
to_list no_trees r = tt
to_list (one_more t ts) r = (r.0, to_list ts r.1)

of_list : (ts : Trees) → EntriesWereRead (tree_list ts) → TreesWereRead ts
of_list no_trees r = tt
of_list (one_more t ts) r = (r.0, of_list ts r.1)

kept_tree : (t u : Tree) → TreeWasRead t → Kept t u → TreeWasRead u
kept_tree (node f ps) (node g qs) r k = (k.fields, of_list qs (subst EntriesWereRead (sym k.parents) (to_list ps r.1)))

fields_of_read : (t : Tree) → TreeWasRead t → FieldsWereRead (fields t)
fields_of_read (node f ps) r = r.0

module _ (again : ReadAgain) where
  member_read : (default : Default) (k : List ℕ) (j : Json) (ps : ParentsView) (t : Tree) → HasTexts j → EntriesWereRead ps.entries → TreeWasRead t → TreeWasRead (with_member default k j ps t).entry
  member_read default k j ps t texts each r = by (is_null j) (bytes_eq k (codes "type")) (bytes_eq k (codes "parent")) (bytes_eq k (codes "key") && is_some default)
    where
      over : (t : Tree) → TreeWasRead t → TreeWasRead (with_parents ps.entries t)
      over (node f os) s = (s.0, from_list ps.entries each)

      by : (a b c d : Bool)
          → TreeWasRead
          (if a then entry_alone t
          else if b then record { entry = t; lost = refusal_lost (type_of j) }
          else if c then record { entry = with_parents ps.entries t; lost = ps.lost }
          else if d then record { entry = t; lost = refusal_lost (plain_of j) }
          else with_field k j t).entry
      by true b c d = r
      by false true c d = r
      by false false true d = over t r
      by false false false true = r
      by false false false false = kept_tree t (with_field k j t).entry r (field_read again k j t texts (fields_of_read t r))

  -- an item in front of others
  item_read : (n : ℕ) (said : Result EntryView Refusal) (ps : ParentsView) → ((v : EntryView) → said ≡ Ok v → TreeWasRead v.entry) → EntriesWereRead ps.entries → EntriesWereRead (with_item n said ps).entries
  item_read n (Ok v) ps one more = (one v refl, more)
  item_read n (Err r) ps one more = more

  mutual
    pub said_read : (key : List ℕ) (default : Default) (j : Json) (v : EntryView) → HasTexts j → entry_said key default j ≡ Ok v → TreeWasRead v.entry
    said_read key default (json.object ms) v texts h =
        let own : List ℕ = key_among key default (json.object ms) in
        let kind = kind_of default (json.object ms) in
        let same = ok_same h in
        subst (λ w. TreeWasRead w.entry) same (members_read own default kind ms (entry_begun own default (json.object ms)) texts (none_read own kind, tt))
    said_read key default json.null v texts h = cc
    said_read key default (json.boolean b) v texts h = cc
    said_read key default (json.number s) v texts h = cc
    said_read key default (json.string s) v texts h = cc
    said_read key default (json.array js) v texts h = cc

    members_read : (key : List ℕ) (default : Default) (kind : EntryType) (ms : Members) (v : EntryView) → MembersHaveTexts ms → TreeWasRead v.entry → TreeWasRead (members_said key default kind ms v).entry
    members_read key default kind json.no_members v texts r = r
    members_read key default kind (json.member k j ms) v texts r =
        let ps = parents_said key (default_parent kind) j in
        let one = member_read default k j ps v.entry texts.0 (parents_read key (default_parent kind) j texts.0) r in
        members_read key default kind ms (after_member k v.lost (with_member default k j ps v.entry)) texts.1 one

    parents_read : (key : List ℕ) (default : EntryType) (j : Json) → HasTexts j → EntriesWereRead (parents_said key default j).entries
    parents_read key default (json.array js) texts = items_read key default 0 js texts
    parents_read key default (json.object ms) texts =
        let own : List ℕ = key_among key (Some default) (json.object ms) in
        let kind = kind_of (Some default) (json.object ms) in
        (members_read own (Some default) kind ms (entry_begun own (Some default) (json.object ms)) texts (none_read own kind, tt), tt)
    parents_read key default json.null texts = tt
    parents_read key default (json.boolean b) texts = tt
    parents_read key default (json.number s) texts = tt
    parents_read key default (json.string s) texts = tt

    items_read : (key : List ℕ) (default : EntryType) (n : ℕ) (js : Items) → ItemsHaveTexts js → EntriesWereRead (items_said key default n js).entries
    items_read key default n json.no_items texts = tt
    items_read key default n (json.item j js) texts =
        item_read n (entry_said key (Some default) j) (items_said key default (n + 1) js) (λ v h. said_read key (Some default) j v texts.0 h) (items_read key default (n + 1) js texts.1)

  entry_read : (key : List ℕ) (default : Default) (j : Json) (t : Tree) → HasTexts j → entry_of key default j ≡ Ok t → TreeWasRead t
  entry_read key default j t texts h =
      let b = both_ok (entry_said key default j) _ t h in
      subst TreeWasRead (ok_same b.then) (said_read key default j b.value texts b.first)

  entries_read : (ms : Members) (ts : List Tree) → MembersHaveTexts ms → entries_of ms ≡ Ok ts → EntriesWereRead ts
  entries_read json.no_members ts texts h = subst EntriesWereRead (ok_same h) tt
  entries_read (json.member k j ms) ts texts h =
      let first = both_ok (within (to_member k) (entry_of k None j)) _ ts h in
      let more = both_ok (entries_of ms) _ ts first.then in
      subst EntriesWereRead (ok_same more.then) (entry_read k None j first.value texts.0 (within_ok (to_member k) (entry_of k None j) first.value first.first), entries_read ms more.value texts.1 more.first)

  pub library_read : (j : Json) (library : List Tree) → HasTexts j → library_of j ≡ Ok library → EntriesWereRead library
  library_read (json.object ms) library texts h = entries_read ms library texts h
  library_read json.null library texts h = cc
  library_read (json.boolean b) library texts h = cc
  library_read (json.number s) library texts h = cc
  library_read (json.string s) library texts h = cc
  library_read (json.array js) library texts h = cc
