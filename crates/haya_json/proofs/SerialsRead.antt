-- Serial numbers that were read are in the order of their names.
use Rattle.std.proofs.Common.{◌≡◌, ℕ, Bool, true, false, List, [], ◌∷◌, ◌++◌, Ok, refl, ap, ◌∙◌, subst}
use Rattle.std.specs.Prelude.{codes, if◌then◌else◌}
use Rattle.std.specs.BTreeMap.{insert_entry}
use Rattle.std.specs.Cmp.Lexicographic.{slice_cmp}
use Rattle.std.specs.Ordering.{nat_cmp, match_ordering, ordering_reverse}
use Rattle.std.proofs.lemmas.Cmp.{nat_list_cmp_total}
use Rattle.std.specs.declared.cmp.Ordering.{Ordering}
use Rattle.std.specs.declared.cmp.Ordering.TheVariants.{Less, Equal, Greater}
use Rattle.json.specs.Json as json
use Rattle.json.specs.Json.{Json, Members}
use Rattle.json.specs.Find.{is_null}
use Rattle.haya_entry.specs.SerialNumber.{Serials}
use Rattle.haya_json.specs.Refusal.{within, and_then, to_member}
use Rattle.haya_json.specs.Parts.{plain_of}
use Rattle.haya_json.specs.Values.{serials_and, serials_with, serials_of}
use Rattle.haya_json.specs.Readable.{ComesBehind, AreInOrder}
use Rattle.haya_json.proofs.TextsRead.{both_ok, ok_same, within_ok}

abbrev order : List ℕ → List ℕ → Ordering
order a b = slice_cmp nat_cmp a b

turned : (a b : List ℕ) → order a b ≡ Less → order b a ≡ Greater
turned a b h = nat_list_cmp_total.antisymm b a ∙ ap ordering_reverse h

turned_back : (a b : List ℕ) → order a b ≡ Greater → order b a ≡ Less
turned_back a b h = nat_list_cmp_total.antisymm b a ∙ ap ordering_reverse h

behind_both : (a b c : List ℕ) → order a b ≡ Greater → order b c ≡ Greater → order a c ≡ Greater
behind_both a b c h k = turned c a (nat_list_cmp_total.trans c b a (turned_back b c k) (turned_back a b h))

-- all names come behind this one
AllBehind : List ℕ → Serials → Type 0
AllBehind name [] = Unit {0}
AllBehind name (s ∷ rest) = (order s.0 name ≡ Greater) × AllBehind name rest

-- each name comes behind those before it
Ascends : Serials → Type 0
unfolding AllBehind
Ascends [] = Unit {0}
Ascends (s ∷ rest) = AllBehind s.0 rest × Ascends rest

all_behind : (a b : List ℕ) (s : Serials) → order b a ≡ Greater → AllBehind b s → AllBehind a s
unfolding AllBehind
all_behind a b [] h k = tt
all_behind a b (s ∷ rest) h k = (behind_both s.0 b a k.0 h, all_behind a b rest h k.1)

inserted_behind : (name k v : List ℕ) (s : Serials) → order k name ≡ Greater → AllBehind name s → AllBehind name (insert_entry order s k v)
unfolding AllBehind
inserted_behind name k v [] h b = (h, tt)
inserted_behind name k v (e ∷ rest) h b = by (order k e.0) (inserted_behind name k v rest h b.1)
  where
    by : (o : Ordering) → AllBehind name (insert_entry order rest k v) → AllBehind name (match_ordering o ((k, v) ∷ e ∷ rest) ((e.0, v) ∷ rest) (e ∷ insert_entry order rest k v))
    by Less more = (h, b)
    by Equal more = b
    by Greater more = (b.0, more)

inserted : (k v : List ℕ) (s : Serials) → Ascends s → Ascends (insert_entry order s k v)
unfolding Ascends AllBehind
inserted k v [] a = (tt, tt)
inserted k v (e ∷ rest) a = by (order k e.0) refl (inserted k v rest a.1)
  where
    by : (o : Ordering) → order k e.0 ≡ o → Ascends (insert_entry order rest k v) → Ascends (match_ordering o ((k, v) ∷ e ∷ rest) ((e.0, v) ∷ rest) (e ∷ insert_entry order rest k v))
    by Less h more = let behind = turned k e.0 h in ((behind, all_behind k e.0 rest behind a.0), a)
    by Equal h more = a
    by Greater h more = (inserted_behind e.0 k v rest h a.0, more)

one_more_before : (name : List ℕ) (before : Serials) (s : List ℕ × List ℕ) → ComesBehind name before → order name s.0 ≡ Greater → ComesBehind name (before ++ s ∷ [])
one_more_before name [] s b h = (h, tt)
one_more_before name (x ∷ before) s b h = (b.0, one_more_before name before s b.1 h)

-- all of these come behind all of those
AllComeBehind : Serials → Serials → Type 0
AllComeBehind before [] = Unit {0}
AllComeBehind before (s ∷ rest) = ComesBehind s.0 before × AllComeBehind before rest

more_before : (before : Serials) (s : List ℕ × List ℕ) (rest : Serials) → AllComeBehind before rest → AllBehind s.0 rest → AllComeBehind (before ++ s ∷ []) rest
unfolding AllBehind AllComeBehind
more_before before s [] b h = tt
more_before before s (x ∷ rest) b h = (one_more_before x.0 before s b.0 h.0, more_before before s rest b.1 h.1)

in_order : (before rest : Serials) → AllComeBehind before rest → Ascends rest → AreInOrder before rest
unfolding AllComeBehind Ascends
in_order before [] b a = tt
in_order before (s ∷ rest) b a = (b.0, in_order (before ++ s ∷ []) rest (more_before before s rest b.1 a.0) a.1)

behind_none : (s : Serials) → AllComeBehind [] s
unfolding AllComeBehind
behind_none [] = tt
behind_none (s ∷ rest) = (tt, behind_none rest)

members_ascend : (ms : Members) (before s : Serials) → Ascends before → serials_with before ms ≡ Ok s → Ascends s
members_ascend json.no_members before s a h = subst Ascends (ok_same h) a
members_ascend (json.member k j ms) before s a h =
    let first = both_ok (within (to_member k) (serials_and before k j)) _ s h in
    members_ascend ms first.value s (by (is_null j) first.value (within_ok (to_member k) (serials_and before k j) first.value first.first)) first.then
  where
    by : (b : Bool) (more : Serials) → (if b then Ok before else and_then (plain_of j) (λ text. Ok (insert_entry order before k text))) ≡ Ok more → Ascends more
    by true more g = subst Ascends (ok_same g) a
    by false more g =
        let t = both_ok (plain_of j) _ more g in
        subst Ascends (ok_same t.then) (inserted k t.value before a)

alone_in_order : (j : Json) (s : Serials) → and_then (plain_of j) (λ text. Ok ((codes "serial", text) ∷ [])) ≡ Ok s → AreInOrder [] s
alone_in_order j s h = let t = both_ok (plain_of j) _ s h in subst (AreInOrder []) (ok_same t.then) (tt, tt)

pub serials_read_again : (j : Json) (s : Serials) → serials_of j ≡ Ok s → AreInOrder [] s
unfolding serials_of Ascends
serials_read_again (json.object ms) s h = in_order [] s (behind_none s) (members_ascend ms [] s tt h)
serials_read_again json.null s h = cc
serials_read_again (json.boolean b) s h = cc
serials_read_again (json.number t) s h = alone_in_order (json.number t) s h
serials_read_again (json.string t) s h = alone_in_order (json.string t) s h
serials_read_again (json.array js) s h = cc
