-- No library is refused but for its list, its items and their keys.
use Rattle.std.proofs.Common.{◌≡◌, inl, inr, ℕ, ◌+◌, List, [], Option, None, Some, Result, Ok, Err, refl, sym, ap}
use Rattle.std.specs.Prelude.{codes, ok_or}
use Rattle.json.specs.Json as json
use Rattle.json.specs.Json.{Json, Items}
use Rattle.haya_entry.specs.Tree.{Tree}
use Rattle.hayagriva.specs.Library.{push}
use Rattle.haya_json.specs.Parts.{bytes_of, member_of, needed_in, text_in}
use Rattle.haya_json.specs.Refusal.{Refusal, and_then, here, to_item, to_member, within}
use Rattle.haya_json.specs.declared.fault.Why.TheVariants.{NotText}
use Rattle.haya_csl.specs.Items.{citation_key_of, given_or, id_of, item_key, item_of, item_said, item_under}
use Rattle.haya_csl.specs.Kinds.{filled}
use Rattle.haya_csl.specs.Libraries.{csl_library_of, items_pushed, list_in, list_of}
use Rattle.haya_csl.specs.Refused.{RefusesItem, RefusesItemOf, RefusesLibrary, RefusesList}
use Rattle.haya_csl.specs.declared.item_key.ItemKey.{ItemKey}
use Rattle.haya_csl.specs.declared.item_key.ItemKey.TheVariants.{CitationKey, Id}

err_same : {T E : Type 0} {a b : E} → (let r : Result T E = Err a in r ≡ Err b) → a ≡ b
err_same h = cc

-- what follows from a value is refused only where that is
refused_first : {T U E : Type 0} (r : Result T E) (f : T → U) (e : E) → and_then r (λ x. Ok (f x)) ≡ Err e → r ≡ Err e
refused_first (Ok x) f e h = cc
refused_first (Err d) f e h = ap Err (err_same h)

-- ---- items

by_text : (o : Option (List ℕ)) (r : Refusal) → within (to_member (codes "id")) (ok_or o (here NotText)) ≡ Err r → RefusesItem r
by_text None r h = inr (inr (sym (err_same h)))
by_text (Some text) r h = cc

by_id : (o : Option Json) (r : Refusal) → within (to_member (codes "id")) (needed_in bytes_of o) ≡ Err r → RefusesItem r
by_id None r h = inr (inl (sym (err_same h)))
by_id (Some j) r h = by_text (text_in j) r h

by_key : (o : Option (List ℕ)) (item : Json) (r : Refusal) → given_or o (id_of item) ≡ Err r → RefusesItem r
by_key None item r h = by_id (filled (codes "id") item) r h
by_key (Some key) item r h = cc

key_refused : (by : ItemKey) (item : Json) (r : Refusal) → item_key by item ≡ Err r → RefusesItem r
key_refused CitationKey item r h = by_key (citation_key_of item) item r h
key_refused Id item r h = by_id (filled (codes "id") item) r h

item_refused : (by : ItemKey) (j : Json) (r : Refusal) → item_of by j ≡ Err r → RefusesItem r
item_refused by (json.object ms) r h =
    let said : item_said by (json.object ms) ≡ Err r = refused_first (item_said by (json.object ms)) (λ v. v.entry) r h in
    key_refused by (json.object ms) r (refused_first (item_key by (json.object ms)) (λ key. item_under by key (json.object ms) ms) r said)
item_refused by json.null r h = inl (sym (err_same h))
item_refused by (json.boolean b) r h = inl (sym (err_same h))
item_refused by (json.number s) r h = inl (sym (err_same h))
item_refused by (json.string s) r h = inl (sym (err_same h))
item_refused by (json.array js) r h = inl (sym (err_same h))

-- ---- libraries

items_refused : (by : ItemKey) (js : Items) (library : List Tree) (place : ℕ) (r : Refusal) → items_pushed by library place js ≡ Err r → RefusesItemOf r
items_refused by json.no_items library place r h = cc
items_refused by (json.item j js) library place r h = cases (λ t. items_refused by js (push t library) (place + 1) r) (item_of by j) refl h
  where
    cases : ((t : Tree) → items_pushed by (push t library) (place + 1) js ≡ Err r → RefusesItemOf r) → (o : Result Tree Refusal) → item_of by j ≡ o
        → and_then (within (to_item place) o) (λ t. items_pushed by (push t library) (place + 1) js) ≡ Err r → RefusesItemOf r
    cases rest (Ok t) is g = rest t g
    cases rest (Err e) is g = record { place = place; of_item = e; refuses = item_refused by j e is; same = sym (err_same g) }

list_refused : (by : ItemKey) (j : Json) (r : Refusal) → list_of by j ≡ Err r → RefusesList r
list_refused by (json.array js) r h = inr (items_refused by js [] 0 r h)
list_refused by json.null r h = inl (sym (err_same h))
list_refused by (json.boolean b) r h = inl (sym (err_same h))
list_refused by (json.number s) r h = inl (sym (err_same h))
list_refused by (json.string s) r h = inl (sym (err_same h))
list_refused by (json.object ms) r h = inl (sym (err_same h))

in_object : (by : ItemKey) (o : Option Json) (r : Refusal) → list_in by o ≡ Err r → RefusesLibrary r
in_object by None r h = inl (inl (sym (err_same h)))
in_object by (Some j) r h = cases (list_of by j) refl h
  where
    cases : (o : Result (List Tree) Refusal) → list_of by j ≡ o → within (to_member (codes "items")) o ≡ Err r → RefusesLibrary r
    cases (Ok t) is g = cc
    cases (Err e) is g = inr (record { of_list = e; refuses = list_refused by j e is; same = sym (err_same g) })

pub library_refused : (by : ItemKey) (j : Json) (r : Refusal) → csl_library_of by j ≡ Err r → RefusesLibrary r
library_refused by (json.object ms) r h = in_object by (member_of (codes "items") (json.object ms)) r h
library_refused by (json.array js) r h = inl (list_refused by (json.array js) r h)
library_refused by json.null r h = inl (list_refused by json.null r h)
library_refused by (json.boolean b) r h = inl (list_refused by (json.boolean b) r h)
library_refused by (json.number s) r h = inl (list_refused by (json.number s) r h)
library_refused by (json.string s) r h = inl (list_refused by (json.string s) r h)
