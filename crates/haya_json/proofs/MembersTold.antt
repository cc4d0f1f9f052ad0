-- What is lost of a member is told of its entry, and few libraries are refused.
use Rattle.std.proofs.Common.{◌≡◌, inl, inr, ℕ, List, ◌∷◌, None, Result, Ok, Err, map, refl, sym, ap, ◌∙◌, subst}
use Rattle.std.specs.List.{Contains}
use Rattle.std.proofs.lemmas.List.{get_or-map, length-map}
use Rattle.std.proofs.lemmas.List.Elements.{Contains-append_left, Contains-append_right}
use Rattle.json.specs.Json as json
use Rattle.json.specs.Json.{Json, Members}
use Rattle.haya_entry.specs.ParentTypes.{default_parent}
use Rattle.haya_entry.specs.Tree.{Tree}
use Rattle.haya_entry.specs.declared.types.EntryType.{EntryType}
use Rattle.haya_json.specs.Entries.{Default, after_member, entry_begun, entry_of, entry_said, key_among, kind_of, members_said, parents_said, with_member}
use Rattle.haya_json.specs.Fields.{EntryView}
use Rattle.haya_json.specs.Libraries.{entries_of, library_of}
use Rattle.haya_json.specs.LostMembers.{HasMember, LosesUnder, RefusesLibrary, member_said}
use Rattle.haya_json.specs.Notes.{LostView, all_behind, lost_behind}
use Rattle.haya_json.specs.Refusal.{Refusal, and_then, to_member, within}
use Rattle.haya_json.proofs.TextsRead.{ok_same}

-- what a list contains is in its image
Contains-map : {X Y : Type 0} (f : X → Y) (xs : List X) (x : X) → Contains xs x → Contains (map f xs) (f x)
Contains-map f xs x has = (has.0, rw length-map has.1, get_or-map f xs has.0 x (f x) has.1 ∙ ap f has.2)

module _ (key : List ℕ) (default : Default) (kind : EntryType) where
  said : List ℕ → Json → Tree → EntryView
  said name j t = with_member default name j (parents_said key (default_parent kind) j) t

  -- what is lost so far is lost after all members
  still_lost : (ms : Members) (v : EntryView) (x : LostView) → Contains v.lost x → Contains (members_said key default kind ms v).lost x
  unfolding said
  still_lost json.no_members v x h = h
  still_lost (json.member k j ms) v x h =
      still_lost ms (after_member k v.lost (said k j v.entry)) x (Contains-append_left v.lost (all_behind (to_member k) (said k j v.entry).lost) x h)

  -- and so is what is lost of a member
  lost_in : (ms : Members) (v : EntryView) (name : List ℕ) (j : Json) → HasMember ms name j → (t : Tree) × LosesUnder (members_said key default kind ms v) name (with_member default name j (parents_said key (default_parent kind) j) t).lost
  unfolding said
  lost_in json.no_members v name j has = absurd has
  lost_in (json.member k i ms) v name j (inr more) = lost_in ms (after_member k v.lost (said k i v.entry)) name j more
  lost_in (json.member k i ms) v name j (inl same) = (v.entry, under)
    where
      own : said k i v.entry ≡ said name j v.entry
      own = rw (same.0, same.1) refl

      under : LosesUnder (members_said key default kind (json.member k i ms) v) name (said name j v.entry).lost
      under x h =
          still_lost ms (after_member k v.lost (said k i v.entry)) (lost_behind (to_member name) x)
          (Contains-append_right v.lost (all_behind (to_member k) (said k i v.entry).lost) (lost_behind (to_member name) x)
          (subst (λ (n : List ℕ). Contains (all_behind (to_member n) (said k i v.entry).lost) (lost_behind (to_member name) x)) (sym same.0)
          (Contains-map (lost_behind (to_member name)) (said k i v.entry).lost x (subst (λ (w : EntryView). Contains w.lost x) (sym own) h))))

-- in an entry
pub member_told : (key : List ℕ) (default : Default) (ms : Members) (v : EntryView) (name : List ℕ) (j : Json) → entry_said key default (json.object ms) ≡ Ok v → HasMember ms name j
    → (t : Tree) × LosesUnder v name (member_said key default ms name j t).lost
member_told key default ms v name j is has =
    let item = json.object ms in
    let own : List ℕ = key_among key default item in
    let lost = lost_in own default (kind_of default item) ms (entry_begun own default item) name j has in
    (lost.0, subst (λ (w : EntryView). LosesUnder w name (member_said key default ms name j lost.0).lost) (ok_same is) lost.1)

-- ---- refusals

err_same : {T E : Type 0} {a b : E} → (let r : Result T E = Err a in r ≡ Err b) → a ≡ b
err_same h = cc

entry_refused : (key : List ℕ) (j : Json) (k : List ℕ) (r : Refusal) → within (to_member k) (entry_of key None j) ≡ Err r → RefusesLibrary r
entry_refused key (json.object ms) k r h = cc
entry_refused key json.null k r h = inr (k, sym (err_same h))
entry_refused key (json.boolean b) k r h = inr (k, sym (err_same h))
entry_refused key (json.number s) k r h = inr (k, sym (err_same h))
entry_refused key (json.string s) k r h = inr (k, sym (err_same h))
entry_refused key (json.array js) k r h = inr (k, sym (err_same h))

entries_refused : (ms : Members) (r : Refusal) → entries_of ms ≡ Err r → RefusesLibrary r
entries_refused json.no_members r h = cc
entries_refused (json.member k j ms) r h = by (entries_refused ms r) (within (to_member k) (entry_of k None j)) refl (entries_of ms) refl h
  where
    by : (entries_of ms ≡ Err r → RefusesLibrary r) → (one : Result Tree Refusal) → within (to_member k) (entry_of k None j) ≡ one → (more : Result (List Tree) Refusal) → entries_of ms ≡ more
        → and_then one (λ t. and_then more (λ ts. Ok (t ∷ ts))) ≡ Err r → RefusesLibrary r
    by rest (Ok t) is (Ok ts) are g = cc
    by rest (Ok t) is (Err e) are g = rest (are ∙ ap Err (err_same g))
    by rest (Err e) is more are g = entry_refused k j k r (is ∙ ap Err (err_same g))

pub library_refused : (j : Json) (r : Refusal) → library_of j ≡ Err r → RefusesLibrary r
library_refused (json.object ms) r h = entries_refused ms r h
library_refused json.null r h = inl (sym (err_same h))
library_refused (json.boolean b) r h = inl (sym (err_same h))
library_refused (json.number s) r h = inl (sym (err_same h))
library_refused (json.string s) r h = inl (sym (err_same h))
library_refused (json.array js) r h = inl (sym (err_same h))
