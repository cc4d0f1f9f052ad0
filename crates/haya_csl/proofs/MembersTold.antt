-- A member that sets nothing is told under its name.
use Rattle.std.proofs.Common.{◌≡◌, inl, inr, ℕ, Bool, true, false, List, [], ◌∷◌, Option, None, Some, Ok, refl, sym, ap, subst, arith}
use Rattle.std.specs.Prelude.{◌||◌, codes, if◌then◌else◌}
use Rattle.std.specs.List.{Contains}
use Rattle.std.specs.Str.{bytes_eq}
use Rattle.std.proofs.lemmas.List.Elements.{Contains-append_left, Contains-append_right}
use Rattle.json.specs.Json as json
use Rattle.json.specs.Json.{Json, Members}
use Rattle.haya_people.specs.Roles.{RoleView}
use Rattle.haya_json.specs.Fields.{EntryView}
use Rattle.haya_json.specs.Notes.{LostView, all_behind, lost_here, named}
use Rattle.haya_json.specs.Refusal.{to_member}
use Rattle.haya_json.proofs.TextsRead.{both_ok, ok_same}
use Rattle.haya_csl.specs.Items.{DraftView, MemberView, after_member, citation_key_lost, is_place_again, item_key, item_said, item_under, members_set, only_lost, role_of, type_lost, with_field, with_member, with_role_or_place}
use Rattle.haya_csl.specs.Kinds.{is_empty, kind_of}
use Rattle.haya_json.specs.LostMembers.{HasMember}
use Rattle.haya_csl.specs.LostMembers.{lost_as, name_by_choice, name_by_role, told_as}
use Rattle.haya_csl.specs.Members.{place_of}
use Rattle.haya_csl.specs.declared.item_key.ItemKey.{ItemKey}
use Rattle.haya_csl.specs.declared.kinds.Kind.{Kind}
use Rattle.haya_csl.specs.declared.members.Choice.{Choice}
use Rattle.haya_csl.specs.declared.members.Choice.TheVariants.{Put, Pass}
use Rattle.haya_csl.specs.declared.members.Level.{Level}
use Rattle.haya_csl.specs.declared.members.Place.{Place}
use Rattle.haya_csl.specs.Items.{chosen}
use Rattle.haya_json.specs.Parts.{text_in}

some_same : {T : Type 0} {a b : T} → Some a ≡ Some b → a ≡ b
some_same h = cc

module _ (by : ItemKey) (item : Json) (key : List ℕ) where
  kind : Kind
  kind = kind_of item

  -- one that has no place, or another is preferred to it
  by_choice : (l : Level) (c : Choice) (name : List ℕ) (j : Json) (d : DraftView) (told : List ℕ) → name_by_choice item name c ≡ Some told → (chosen l c key name item j d).lost ≡ lost_here (named told) ∷ []
  by_choice l Pass name j d told h = ap (λ n. lost_here (named n) ∷ []) (some_same h)
  by_choice l (Put f) name j d told h = cc

  by_role : (role : Option RoleView) (place : Option Place) (name : List ℕ) (j : Json) (d : DraftView) (told : List ℕ) → name_by_role item name role place ≡ Some told
      → (with_role_or_place role place key name item j d).lost ≡ lost_here (named told) ∷ []
  by_role (Some role) place name j d told h = cc
  by_role None None name j d told h = ap (λ n. lost_here (named n) ∷ []) (some_same h)
  by_role None (Some place) name j d told h = by_choice place.level place.choice name j d told h

  -- a member
  member_lost : (name : List ℕ) (j : Json) (d : DraftView) (told : List ℕ) → told_as item name j ≡ Some told → (with_member by (kind_of item) key name item j d).lost ≡ lost_here (named told) ∷ []
  member_lost name j d told h =
      cases (is_empty j) (bytes_eq name (codes "id")) (bytes_eq name (codes "citation-key")) (bytes_eq name (codes "type")) (is_place_again name item j) h
    where
      cases : (empty id citation type again : Bool)
          → (if empty || (id || (citation || (type || again))) then None else name_by_role item name (role_of name) (place_of (kind_of item) name item)) ≡ Some told
          → (if empty then only_lost [] d else if id then only_lost [] d else if citation then only_lost (citation_key_lost by j) d else if type then only_lost (type_lost (text_in j) item) d
          else if again then only_lost [] d else with_field (kind_of item) key name item j d).lost ≡ lost_here (named told) ∷ []
      cases true id citation type again h = cc
      cases false true citation type again h = cc
      cases false false true type again h = cc
      cases false false false true again h = cc
      cases false false false false true h = cc
      cases false false false false false h = by_role (role_of name) (place_of (kind_of item) name item) name j d told h

  -- what is lost so far is lost after all members
  still_lost : (ms : Members) (m : MemberView) (x : LostView) → Contains m.lost x → Contains (members_set by (kind_of item) key item ms m).lost x
  still_lost json.no_members m x h = h
  still_lost (json.member k j ms) m x h =
      still_lost ms (after_member k m.lost (with_member by (kind_of item) key k item j m.after)) x
      (Contains-append_left m.lost (all_behind (to_member k) (with_member by (kind_of item) key k item j m.after).lost) x h)

  -- and so is such a member
  lost_in : (ms : Members) (m : MemberView) (name : List ℕ) (j : Json) (told : List ℕ) → HasMember ms name j → told_as item name j ≡ Some told
      → Contains (members_set by (kind_of item) key item ms m).lost (lost_as name told)
  lost_in json.no_members m name j told has h = absurd has
  lost_in (json.member k i ms) m name j told (inr more) h =
      lost_in ms (after_member k m.lost (with_member by (kind_of item) key k item i m.after)) name j told more h
  lost_in (json.member k i ms) m name j told (inl same) h =
      still_lost ms (after_member k m.lost (with_member by (kind_of item) key k item i m.after)) (lost_as name told)
      (Contains-append_right m.lost (all_behind (to_member k) (with_member by (kind_of item) key k item i m.after).lost) (lost_as name told) alone)
    where
      own : (with_member by (kind_of item) key k item i m.after).lost ≡ lost_here (named told) ∷ []
      own = rw (same.0, same.1) (member_lost name j m.after told h)

      one : (k : List ℕ) → k ≡ name → Contains (all_behind (to_member k) (lost_here (named told) ∷ [])) (lost_as name told)
      one k is = subst (λ (n : List ℕ). Contains (all_behind (to_member n) (lost_here (named told) ∷ [])) (lost_as name told)) (sym is) (0, omega arith, refl)

      alone : Contains (all_behind (to_member k) (with_member by (kind_of item) key k item i m.after).lost) (lost_as name told)
      alone = subst (λ (losts : List LostView). Contains (all_behind (to_member k) losts) (lost_as name told)) (sym own) (one k same.0)

-- in an item
pub member_told : (by : ItemKey) (ms : Members) (said : EntryView) (name : List ℕ) (j : Json) (told : List ℕ) → item_said by (json.object ms) ≡ Ok said → HasMember ms name j
    → told_as (json.object ms) name j ≡ Some told → Contains said.lost (lost_as name told)
member_told by ms said name j told is has h =
    let item = json.object ms in
    let first = both_ok (item_key by item) (λ key. Ok (item_under by key item ms)) said is in
    let same : item_under by first.value item ms ≡ said = ok_same first.then in
    subst (λ (v : EntryView). Contains v.lost (lost_as name told)) same
    (lost_in by item first.value ms (only_lost [] _) name j told has h)
