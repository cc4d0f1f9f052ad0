-- The fields of entries, those of the sources before those of the entries that refer to them.
use Rattle.std.proofs.Common.{◌≡◌, ◌≢◌, ◌<◌, ◌≤◌, ◌⊎◌, ℕ, zero, suc, ◌+◌, Bool, true, false, cond, List, [], ◌∷◌, ◌++◌, Option, Some, None, length, get_or, map, set, take, drop, refl, ap, sym, ◌∙◌, subst, arith, inl, inr, Vec}
use Rattle.std.specs.Prelude.{All, Contains, IfSome, filter, fold, string_bytes}
use Rattle.std.specs.List.{cons_option, filter_map}
use Rattle.std.proofs.lemmas.Bool.{cases_lt, cases_eq, eqb-false, eqb-true, eq-eqb}
use Rattle.std.proofs.lemmas.List.{drop_more, get_or-map, get_or_default, get_or_past, get_or-set_same, get_or-set_other, get_or-take, length-map, length-set, length-take, ext_get_or}
use Rattle.std.proofs.lemmas.List.Elements.{All-map}
use Rattle.haya_bibtex_text.specs.declared.entry.Entry.{Entry}
use Rattle.haya_bibtex_inherited.specs.Changes.{changes_between}
use Rattle.haya_bibtex_inherited.specs.Entries.{EntryBytes, FieldBytes}
use Rattle.haya_bibtex_inherited.specs.Graphs.{IsInOrder, IsWhole, targets}
use Rattle.haya_bibtex_inherited.specs.Inherited.{AreAllFields, IsLibrary, Source, TellsBack, all_fields, entry_at, entry_targets, is_passed_over, leads_nowhere_else, entries_with, no_entry, passed_over_from, reference_graph, reference_of, source_of, sources, with_given, with_source, with_source_at}
use Rattle.haya_bibtex_inherited.specs.Lists.{have_same_rank, lists_view}
use Rattle.haya_bibtex_inherited.specs.References.{ReferenceBytes, position_of, references}
use Rattle.haya_bibtex_inherited.specs.Search.{graph_of}
use Rattle.haya_bibtex_inherited.specs.Sources.{all_sources_view, source_view, sources_view}
use Rattle.haya_bibtex_inherited.specs.Views.{entry_bytes, fields_view}
use Rattle.haya_bibtex_inherited.specs.declared.field.FieldRef.{FieldRef}
use Rattle.haya_bibtex_inherited.specs.declared.source.Source.{Source as FoundSource}
use Rattle.haya_bibtex_inherited.proofs.Positions.{position_within}

-- ---- what is read
pub entry_read : (es : List Entry) (i : ℕ) (e : Entry) → i < length es → e ≡ get_or es i e → entry_at (map entry_bytes es) i ≡ entry_bytes e
entry_read es i e l is = get_or-map entry_bytes es i e no_entry l ∙ ap entry_bytes (sym is)

pub list_read : {Z : Type 0} (ls : List (Vec FieldRef Z)) (i : ℕ) (v : Vec FieldRef Z) → i < length ls → v ≡ get_or ls i v → get_or (lists_view ls) i [] ≡ fields_view v.items
list_read ls i v l is = get_or-map (λ v. fields_view v.items) ls i v [] l ∙ ap (λ v. fields_view v.items) (sym is)

-- a source gives what it has
pub source_given : {Z : Type 0} (ranks : List ℕ) (es : List Entry) (ls : List (Vec FieldRef Z)) (place other : ℕ) (fs gs : List FieldBytes) (s : FoundSource) (eo ep : Entry) (v : Vec FieldRef Z)
    → s.position ≡ Some other → other < length es → eo ≡ get_or es other eo → place < length es → ep ≡ get_or es place ep → other < length ls → v ≡ get_or ls other v
    → have_same_rank ranks other place ≡ false
    → gs ≡ with_given (changes_between s.reference.link (string_bytes eo.kind) (string_bytes ep.kind)) fs (fields_view v.items)
    → gs ≡ with_source (have_same_rank ranks) (map entry_bytes es) (lists_view ls) place fs (source_view s)
source_given ranks es ls place other fs gs s eo ep v at lo io lp ip lv iv rank is =
    let a : (entry_at (map entry_bytes es) other).kind ≡ string_bytes eo.kind = ap (λ e. e.kind) (entry_read es other eo lo io) in
    let b : (entry_at (map entry_bytes es) place).kind ≡ string_bytes ep.kind = ap (λ e. e.kind) (entry_read es place ep lp ip) in
    let d : get_or (lists_view ls) other [] ≡ fields_view v.items = list_read ls other v lv iv in
    is
    ∙ sym (ap (λ k. with_given (changes_between s.reference.link k (string_bytes ep.kind)) fs (fields_view v.items)) a)
    ∙ sym (ap (λ k. with_given (changes_between s.reference.link (entry_at (map entry_bytes es) other).kind k) fs (fields_view v.items)) b)
    ∙ sym (ap (λ gs. with_given (changes_between s.reference.link (entry_at (map entry_bytes es) other).kind (entry_at (map entry_bytes es) place).kind) fs gs) d)
    ∙ sym (ap (λ t. cond t fs (with_given (changes_between s.reference.link (entry_at (map entry_bytes es) other).kind (entry_at (map entry_bytes es) place).kind) fs (get_or (lists_view ls) other []))) rank)
    ∙ sym (ap (with_source_at (have_same_rank ranks) (map entry_bytes es) (lists_view ls) place fs s.reference.link) at)

-- one source more
pub source_more : (back : ℕ → ℕ → Bool) (es : List EntryBytes) (all : List (List FieldBytes)) (place : ℕ) (acc acc' total : List FieldBytes) (xs : List FoundSource) (k : ℕ) (x : FoundSource) → k < length xs → x ≡ get_or xs k x
    → fold (with_source back es all place) acc (sources_view (drop k xs)) ≡ total → acc' ≡ with_source back es all place acc (source_view x)
    → fold (with_source back es all place) acc' (sources_view (drop (k + 1) xs)) ≡ total
source_more back es all place acc acc' total xs k x l is was next =
    let d : drop k xs ≡ x ∷ drop (k + 1) xs = drop_more xs k x l ∙ ap (λ y. y ∷ drop (k + 1) xs) (sym is) in
    ap (λ a. fold (with_source back es all place) a (sources_view (drop (k + 1) xs))) next
    ∙ ap (λ ys. fold (with_source back es all place) acc (sources_view ys)) (sym d) ∙ was

-- ---- sources are entries
pub sources_within : (es : List EntryBytes) (e : EntryBytes) → All (λ s. IfSome s.position (λ j. j < length es)) (sources es e)
sources_within es e = All-map (λ s. IfSome s.position (λ j. j < length es)) (source_of es) (references e) (λ k d h. position_within es (get_or (references e) k d).key)

-- the source at a place is one
pub source_within : (es : List EntryBytes) (e : EntryBytes) (n : ℕ) (xs : List FoundSource) (k : ℕ) (d : FoundSource) → sources_view xs ≡ sources es e → length es ≡ n → k < length xs
    → IfSome (get_or xs k d).position (λ j. j < n)
source_within es e n xs k d view long l =
    let x = get_or xs k d in
    let l' : k < length (sources es e) = omega (arith, l, length-map xs source_view, ap length view) in
    let at : get_or (sources es e) k (source_view x) ≡ source_view x =
    sym (ap (λ v. get_or v k (source_view x)) view) ∙ get_or-map source_view xs k d (source_view x) l in
    let h : IfSome (get_or (sources es e) k (source_view x)).position (λ j. j < length es) = sources_within es e k (source_view x) l' in
    subst (λ (m : ℕ). IfSome x.position (λ j. j < m)) long (subst (λ (s : Source). IfSome s.position (λ j. j < length es)) at h)

-- what is in a list but not at its front is behind it
contains_behind : (x : ℕ) (xs : List ℕ) (j : ℕ) → Contains (x ∷ xs) j → (x ≡ j) ⊎ Contains xs j
contains_behind x xs j (zero, l, e) = inl e
contains_behind x xs j (suc k, l, e) = inr (k, omega (arith, l), e)

targets_within : (es : List EntryBytes) (rs : List ReferenceBytes) (j : ℕ) → Contains (filter_map (λ s. s.position) (map (source_of es) rs)) j → j < length es
targets_within es [] j c = absurd (omega (arith, c.1))
targets_within es (r ∷ rs) j c = by (targets_within es rs j) (position_of es r.key) (position_within es r.key) c where
  by : (Contains (filter_map (λ s. s.position) (map (source_of es) rs)) j → j < length es) → (o : Option ℕ) → IfSome o (λ i. i < length es)
      → Contains (cons_option o (filter_map (λ s. s.position) (map (source_of es) rs))) j → j < length es
  by more None h d = more d
  by more (Some i) h d = elim (contains_behind i (filter_map (λ s. s.position) (map (source_of es) rs)) j d) [
    | inl same ↦ subst (λ (k : ℕ). k < length es) same h
    | inr later ↦ more later
  ]

pub targets_at : (es : List EntryBytes) (i : ℕ) → i < length es → targets (reference_graph es) i ≡ entry_targets es (entry_at es i)
targets_at es i l = get_or-map (entry_targets es) es i no_entry [] l

pub references_whole : (es : List EntryBytes) → IsWhole (reference_graph es)
references_whole es i j c =
    let long : length (reference_graph es) ≡ length es = length-map es (entry_targets es) in
    elim (cases_lt i (length es)) [
      | inl l ↦
          let h = targets_within es (references (entry_at es i)) j (subst (λ (v : List ℕ). Contains v j) (targets_at es i l) c) in
          omega (arith, h, long)
      | inr l ↦
          let none : targets (reference_graph es) i ≡ [] = get_or_past (reference_graph es) i [] (omega (arith, l, long)) in
          let d = subst (λ (v : List ℕ). Contains v j) none c in
          absurd (omega (arith, d.1))
    ]

-- what holds of sources holds of each
pub source_at : (P : Source → Type 0) (xs : List FoundSource) (k : ℕ) (d : FoundSource) → All P (sources_view xs) → k < length xs → P (source_view (get_or xs k d))
source_at P xs k d all l =
    let l' : k < length (sources_view xs) = omega (arith, l, length-map xs source_view) in
    subst P (get_or-map source_view xs k d (source_view d) l) (all k (source_view d) l')

pub sources_at : {Z : Type 0} (P : List Source → Type 0) (xs : List (Vec FoundSource Z)) (k : ℕ) (v : Vec FoundSource Z) → All P (map (λ v. sources_view v.items) xs) → k < length xs → v ≡ get_or xs k v → P (sources_view v.items)
sources_at P xs k v all l is =
    let l' : k < length (map (λ v. sources_view v.items) xs) = omega (arith, l, length-map xs (λ v. sources_view v.items)) in
    subst P (get_or-map (λ v. sources_view v.items) xs k v [] l ∙ ap (λ v. sources_view v.items) (sym is)) (all k [] l')

-- ---- circles
pub tells_back : (es : List EntryBytes) (ranks order : List ℕ) → IsInOrder (reference_graph es) ranks order → TellsBack (reference_graph es) (have_same_rank ranks)
tells_back es ranks order o i j l c =
    let b = o.back i j l c in
    (λ t. b.0 (eqb-true (get_or ranks j 0) (get_or ranks i 0) t), λ h. eq-eqb (get_or ranks j 0) (get_or ranks i 0) (b.1 h))

-- ---- fields that are known
first_target : (j : ℕ) (xs : List ℕ) → Contains (j ∷ xs) j
first_target j xs = (0, (let z : 0 < length (j ∷ xs) = omega arith in z), refl)

later_target : (o : Option ℕ) (xs : List ℕ) (j : ℕ) → Contains xs j → Contains (cons_option o xs) j
later_target None xs j c = c
later_target (Some i) xs j c = (suc c.0, omega (arith, c.1), c.2)

-- of an entry's sources the same lead back, and the others have the same fields
abbrev Agree : (ℕ → ℕ → Bool) → (ℕ → ℕ → Bool) → List (List FieldBytes) → List (List FieldBytes) → ℕ → List ℕ → Type 0
Agree back back' all all' i js = (j : ℕ) → Contains js j → (back' j i ≡ back j i) × (back j i ≡ false → get_or all' j [] ≡ get_or all j [])

same_source : (back back' : ℕ → ℕ → Bool) (es : List EntryBytes) (all all' : List (List FieldBytes)) (i : ℕ) (fs : List FieldBytes) (s : Source)
    → ((j : ℕ) → s.position ≡ Some j → (back' j i ≡ back j i) × (back j i ≡ false → get_or all' j [] ≡ get_or all j []))
    → with_source back' es all' i fs s ≡ with_source back es all i fs s
same_source back back' es all all' i fs s h = by s.position refl where
  by : (o : Option ℕ) → s.position ≡ o → with_source_at back' es all' i fs s.link o ≡ with_source_at back es all i fs s.link o
  by None e = refl
  by (Some j) e =
      ap (λ b. cond b fs (with_given (changes_between s.link (entry_at es j).kind (entry_at es i).kind) fs (get_or all' j []))) (h j e).0
      ∙ test (back j i) refl
    where
      test : (b : Bool) → back j i ≡ b
          → cond b fs (with_given (changes_between s.link (entry_at es j).kind (entry_at es i).kind) fs (get_or all' j []))
          ≡ cond b fs (with_given (changes_between s.link (entry_at es j).kind (entry_at es i).kind) fs (get_or all j []))
      test true f = refl
      test false f = ap (λ gs. with_given (changes_between s.link (entry_at es j).kind (entry_at es i).kind) fs gs) ((h j e).1 f)

same_fields : (back back' : ℕ → ℕ → Bool) (es : List EntryBytes) (all all' : List (List FieldBytes)) (i : ℕ) (fs : List FieldBytes) (ss : List Source)
    → Agree back back' all all' i (filter_map (λ s. s.position) ss)
    → fold (with_source back' es all' i) fs ss ≡ fold (with_source back es all i) fs ss
same_fields back back' es all all' i fs [] h = refl
same_fields back back' es all all' i fs (s ∷ ss) h =
    let rest = filter_map (λ s. s.position) ss in
    let one = same_source back back' es all all' i fs s (λ j e. h j (subst (λ (o : Option ℕ). Contains (cons_option o rest) j) (sym e) (first_target j rest))) in
    ap (λ a. fold (with_source back' es all' i) a ss) one
    ∙ same_fields back back' es all all' i (with_source back es all i fs s) ss (λ j c. h j (later_target s.position rest j c))

-- the fields of the first nodes of an order are known
pub record AreKnown (ranks order : List ℕ) (es : List EntryBytes) (n : ℕ) (all : List (List FieldBytes)) : Type 0 where
  pub as_many : length all ≡ length es
  pub each : (k : ℕ) → k < n → get_or all (get_or order k 0) [] ≡ all_fields (have_same_rank ranks) es all (get_or order k 0)

-- those of one more
pub known_more : (ranks order : List ℕ) (es : List EntryBytes) (n : ℕ) (all : List (List FieldBytes)) (p : ℕ) (fs : List FieldBytes) → IsInOrder (reference_graph es) ranks order
    → n < length order → p ≡ get_or order n 0 → AreKnown ranks order es n all → fs ≡ all_fields (have_same_rank ranks) es all p → AreKnown ranks order es (n + 1) (set all p fs)
known_more ranks order es n all p fs o l at known is =
    let back = have_same_rank ranks in
    let g = reference_graph es in
    let long : length g ≡ length es = length-map es (entry_targets es) in
    let p_in : p < length es = subst (λ (x : ℕ). x < length es) (sym at) (omega (arith, o.known n l, long)) in
    let p_all : p < length all = omega (arith, p_in, known.as_many) in
    let agree : (k : ℕ) → k < n + 1 → Agree back back all (set all p fs) (get_or order k 0) (entry_targets es (entry_at es (get_or order k 0))) = λ k h j c. (
      refl,
      λ no.
          let k_in : k < length order = omega (arith, h, l) in
          let q_in : get_or order k 0 < length es = omega (arith, o.known k k_in, long) in
          let c' : Contains (targets g (get_or order k 0)) j = subst (λ (v : List ℕ). Contains v j) (sym (targets_at es (get_or order k 0) q_in)) c in
          let d = o.behind k j k_in c' (eqb-false (get_or ranks j 0) (get_or ranks (get_or order k 0) 0) no) in
          let i = d.0 in
          let i_k : i < k = omega (arith, d.1, length-take k order) in
          let i_in : i < length order = omega (arith, i_k, k_in) in
          let at_i : get_or order i 0 ≡ j = sym (get_or-take k order i 0 i_k) ∙ get_or_default (take k order) i 0 j d.1 ∙ d.2 in
          let done : get_or all j [] ≡ all_fields back es all j =
          subst (λ (x : ℕ). get_or all x [] ≡ all_fields back es all x) at_i (known.each i (omega (arith, i_k, h))) in
          elim (cases_eq j p) [
            | inl e ↦
                ap (λ x. get_or (set all p fs) x []) e ∙ get_or-set_same all p fs [] p_all ∙ is
                ∙ sym (ap (all_fields back es all) e) ∙ sym done
            | inr ne ↦ get_or-set_other all p j fs [] ne
          ],
    ) in
    let same : (k : ℕ) → k < n + 1 → all_fields back es (set all p fs) (get_or order k 0) ≡ all_fields back es all (get_or order k 0) = λ k h.
    same_fields back back es all (set all p fs) (get_or order k 0) (entry_at es (get_or order k 0)).fields (sources es (entry_at es (get_or order k 0))) (agree k h) in
    record {
      as_many = length-set all p fs ∙ known.as_many;
      each = λ k h. elim (cases_eq (get_or order k 0) p) [
        | inl e ↦
            ap (λ x. get_or (set all p fs) x []) e ∙ get_or-set_same all p fs [] p_all ∙ is ∙ sym (ap (all_fields back es all) e) ∙ sym (same k h)
        | inr ne ↦
            let h' : k < n = elim (cases_lt k n) [
              | inl m ↦ m
              | inr m ↦ let e : k ≡ n = omega arith in absurd (ne (ap (λ x. get_or order x 0) e ∙ sym at))
            ] in
            get_or-set_other all p (get_or order k 0) fs [] ne ∙ known.each k h' ∙ sym (same k h)
      ];
    }

-- those of all
pub known_all : (ranks order : List ℕ) (es : List EntryBytes) (n : ℕ) (all : List (List FieldBytes)) → IsInOrder (reference_graph es) ranks order → length order ≤ n → AreKnown ranks order es n all
    → AreAllFields (have_same_rank ranks) es all
known_all ranks order es n all o l known = record {
  as_many = known.as_many;
  each = λ i h.
      let c = o.all i (omega (arith, h, length-map es (entry_targets es))) in
      let at : get_or order c.0 0 ≡ i = get_or_default order c.0 0 i c.1 ∙ c.2 in
      subst (λ (x : ℕ). get_or all x [] ≡ all_fields (have_same_rank ranks) es all x) at (known.each c.0 (omega (arith, c.1, l)));
}

-- ---- there is one such list
-- ways to tell circles agree on the sources of each entry
abbrev pub TellSame : List EntryBytes → (ℕ → ℕ → Bool) → (ℕ → ℕ → Bool) → Type 0
TellSame es back back' = (i j : ℕ) → i < length es → Contains (entry_targets es (entry_at es i)) j → back' j i ≡ back j i

pub tell_same : (es : List EntryBytes) (back back' : ℕ → ℕ → Bool) → TellsBack (reference_graph es) back → TellsBack (reference_graph es) back' → TellSame es back back'
tell_same es back back' t t' i j l c =
    let g = reference_graph es in
    let l' : i < length g = omega (arith, l, length-map es (entry_targets es)) in
    let c' : Contains (targets g i) j = subst (λ (v : List ℕ). Contains v j) (sym (targets_at es i l)) c in
    let a = t i j l' c' in
    let b = t' i j l' c' in
    both (back' j i) (back j i) (λ e. a.1 (b.0 e)) (λ e. b.1 (a.0 e))
  where
    both : (x y : Bool) → (x ≡ true → y ≡ true) → (y ≡ true → x ≡ true) → x ≡ y
    both true y f h = sym (f refl)
    both false true f h = h refl
    both false false f h = refl

-- fields at the first nodes of an order
same_at : (ranks order : List ℕ) (es : List EntryBytes) (back back' : ℕ → ℕ → Bool) (all all' : List (List FieldBytes)) → IsInOrder (reference_graph es) ranks order → TellsBack (reference_graph es) back
    → TellSame es back back' → AreAllFields back es all → AreAllFields back' es all' → (n k : ℕ) → k < n → k < length order
    → get_or all' (get_or order k 0) [] ≡ get_or all (get_or order k 0) []
same_at ranks order es back back' all all' o t same a a' zero k h l = absurd (omega (arith, h))
same_at ranks order es back back' all all' o t same a a' (suc n) k h l =
    let g = reference_graph es in
    let long : length g ≡ length es = length-map es (entry_targets es) in
    let q = get_or order k 0 in
    let q_g : q < length g = o.known k l in
    let q_in : q < length es = omega (arith, q_g, long) in
    let agree : Agree back back' all all' q (entry_targets es (entry_at es q)) = λ j c. (
      same q j q_in c,
      λ no.
          let c' : Contains (targets g q) j = subst (λ (v : List ℕ). Contains v j) (sym (targets_at es q q_in)) c in
          let other : get_or ranks j 0 ≢ get_or ranks q 0 = λ e. true_and_false (back j q) ((t q j q_g c').1 ((o.back q j q_g c').0 e)) no in
          let d = o.behind k j l c' other in
          let i_k : d.0 < k = omega (arith, d.1, length-take k order) in
          let at_i : get_or order d.0 0 ≡ j = sym (get_or-take k order d.0 0 i_k) ∙ get_or_default (take k order) d.0 0 j d.1 ∙ d.2 in
          subst (λ (x : ℕ). get_or all' x [] ≡ get_or all x []) at_i
          (same_at ranks order es back back' all all' o t same a a' n d.0 (omega (arith, i_k, h)) (omega (arith, i_k, l))),
    ) in
    a'.each q q_in ∙ same_fields back back' es all all' q (entry_at es q).fields (sources es (entry_at es q)) agree ∙ sym (a.each q q_in)
  where
    true_and_false : (b : Bool) → b ≡ true → b ≡ false → ⊥
    true_and_false b e f = cc

pub same_all : (ranks order : List ℕ) (es : List EntryBytes) (back back' : ℕ → ℕ → Bool) (all all' : List (List FieldBytes)) → IsInOrder (reference_graph es) ranks order → TellsBack (reference_graph es) back
    → TellSame es back back' → AreAllFields back es all → AreAllFields back' es all' → all' ≡ all
same_all ranks order es back back' all all' o t same a a' =
    ext_get_or [] all' all (a'.as_many ∙ sym a.as_many) (λ i h.
    let l : i < length es = omega (arith, h, a'.as_many) in
    let c = o.all i (omega (arith, l, length-map es (entry_targets es))) in
    let at : get_or order c.0 0 ≡ i = get_or_default order c.0 0 i c.1 ∙ c.2 in
    subst (λ (x : ℕ). get_or all' x [] ≡ get_or all x []) at
    (same_at ranks order es back back' all all' o t same a a' (length order) c.0 c.1 c.1))

-- and the same references are passed over
same_filter : (back back' : ℕ → ℕ → Bool) (i : ℕ) (ss : List Source) → ((j : ℕ) → Contains (filter_map (λ s. s.position) ss) j → back' j i ≡ back j i)
    → filter (is_passed_over back' i) ss ≡ filter (is_passed_over back i) ss
same_filter back back' i [] h = refl
same_filter back back' i (s ∷ ss) h =
    let rest = filter_map (λ s. s.position) ss in
    let one : is_passed_over back' i s ≡ is_passed_over back i s = by s.position (λ j e. h j (subst (λ (o : Option ℕ). Contains (cons_option o rest) j) (sym e) (first_target j rest))) s.position refl in
    ap (λ b. cond b (s ∷ filter (is_passed_over back' i) ss) (filter (is_passed_over back' i) ss)) one
    ∙ ap (λ v. cond (is_passed_over back i s) (s ∷ v) v) (same_filter back back' i ss (λ j c. h j (later_target s.position rest j c)))
  where
    by : (p : Option ℕ) → ((j : ℕ) → p ≡ Some j → back' j i ≡ back j i) → (o : Option ℕ) → p ≡ o → leads_nowhere_else back' i p ≡ leads_nowhere_else back i p
    by None f o e = refl
    by (Some j) f o e = f j refl

same_from : (es : List EntryBytes) (back back' : ℕ → ℕ → Bool) (ws : List EntryBytes) (i : ℕ) → ((k j : ℕ) → k < length ws → Contains (entry_targets es (get_or ws k no_entry)) j → back' j (i + k) ≡ back j (i + k))
    → passed_over_from back' i (map (sources es) ws) ≡ passed_over_from back i (map (sources es) ws)
same_from es back back' [] i h = refl
same_from es back back' (w ∷ ws) i h =
    let z : i + 0 ≡ i = omega arith in
    let some : 0 < length (w ∷ ws) = omega arith in
    let one = same_filter back back' i (sources es w) (λ j c. subst (λ (x : ℕ). back' j x ≡ back j x) z (h 0 j some c)) in
    let more = same_from es back back' ws (i + 1) (λ k j l c.
    let e : i + suc k ≡ i + 1 + k = omega arith in
    subst (λ (x : ℕ). back' j x ≡ back j x) e (h (suc k) j (omega (arith, l)) c)) in
    ap (λ v. map reference_of v ++ passed_over_from back' (i + 1) (map (sources es) ws)) one
    ∙ ap (λ v. map reference_of (filter (is_passed_over back i) (sources es w)) ++ v) more

pub same_passed : (es : List EntryBytes) (back back' : ℕ → ℕ → Bool) → TellSame es back back'
    → passed_over_from back' 0 (map (sources es) es) ≡ passed_over_from back 0 (map (sources es) es)
same_passed es back back' same = same_from es back back' es 0 (λ k j l c. let z : 0 + k ≡ k = omega arith in subst (λ (x : ℕ). back' j x ≡ back j x) (sym z) (same k j l c))

-- a library of these entries is this one
pub one_library : (ranks order : List ℕ) (es : List EntryBytes) → IsInOrder (reference_graph es) ranks order → (l l' : List EntryBytes) (p p' : List ReferenceBytes)
    → IsLibrary es l p → IsLibrary es l' p' → (l' ≡ l) × (p' ≡ p)
one_library ranks order es o l l' p p' a b =
    let same = tell_same es a.back b.back a.circles b.circles in (
      b.entries ∙ ap (entries_with es) (same_all ranks order es a.back b.back a.all b.all o a.circles same a.fields b.fields) ∙ sym a.entries,
      b.passed_over ∙ same_passed es a.back b.back same ∙ sym a.passed_over,
    )

-- the graph of sources that are found
pub graph_is : (es ws : List EntryBytes) → map (filter_map (λ s. s.position)) (map (sources es) ws) ≡ map (entry_targets es) ws
graph_is es [] = refl
graph_is es (w ∷ ws) = ap (λ v. entry_targets es w ∷ v) (graph_is es ws)

pub all_within : (es : List EntryBytes) (n : ℕ) → length es ≡ n → All (All (λ s. IfSome s.position (λ j. j < n))) (map (sources es) es)
all_within es n e = All-map (All (λ s. IfSome s.position (λ j. j < n))) (sources es) es (λ k d h. subst (λ (m : ℕ). All (λ s. IfSome s.position (λ j. j < m)) (sources es (get_or es k d))) e (sources_within es (get_or es k d)))

-- ---- what is found is read
pub sources_read : {Z : Type 0} (es : List EntryBytes) (all : List (Vec FoundSource Z)) (p : ℕ) (v : Vec FoundSource Z) → all_sources_view all ≡ map (sources es) es → p < length es → v ≡ get_or all p v
    → sources_view v.items ≡ sources es (entry_at es p)
sources_read es all p v is l at =
    let h : p < length all = omega (arith, l, ap length is, length-map all (λ v. sources_view v.items), length-map es (sources es)) in
    sym (get_or-map (λ v. sources_view v.items) all p v [] h ∙ ap (λ v. sources_view v.items) (sym at))
    ∙ ap (λ x. get_or x p []) is ∙ get_or-map (sources es) es p no_entry [] l

pub node_within : (ranks order ns : List ℕ) (es : List EntryBytes) (k : ℕ) → IsInOrder (reference_graph es) ranks order → ns ≡ order → k < length ns → get_or ns k 0 < length es
node_within ranks order ns es k o e l =
    let k_in : k < length order = omega (arith, l, ap length e) in
    let h : get_or order k 0 < length es = omega (arith, o.known k k_in, length-map es (entry_targets es)) in
    subst (λ (x : ℕ). x < length es) (sym (ap (λ x. get_or x k 0) e)) h

pub graph_same : {Z W : Type 0} (es : List EntryBytes) (graph' graph : List (Vec ℕ Z)) (all' all : List (Vec FoundSource W)) → graph' ≡ graph → all' ≡ all
    → graph_of graph ≡ map (filter_map (λ s. s.position)) (all_sources_view all') → all_sources_view all ≡ map (sources es) es → graph_of graph' ≡ reference_graph es
graph_same es graph' graph all' all g a is found =
    ap graph_of g ∙ is ∙ ap (λ v. map (filter_map (λ s. s.position)) (all_sources_view v)) a ∙ ap (map (filter_map (λ s. s.position))) found ∙ graph_is es es
