-- Entries of which none refers to another.
use Rattle.std.proofs.Common.{◌≡◌, ◌<◌, ℕ, ◌+◌, Bool, false, List, [], ◌∷◌, ◌++◌, length, get_or, map, refl, ap, sym, ◌∙◌, subst, arith}
use Rattle.std.specs.Prelude.{All, Contains, filter, fold}
use Rattle.std.specs.List.{filter_map}
use Rattle.std.proofs.lemmas.List.{ext_get_or, get_or-map, length-map}
use Rattle.std.proofs.lemmas.List.Elements.{All-head, All-tail}
use Rattle.haya_bibtex_inherited.specs.Entries.{EntryBytes, FieldBytes}
use Rattle.haya_bibtex_inherited.specs.Graphs.{targets}
use Rattle.haya_bibtex_inherited.specs.Inherited.{AreAllFields, IsLibrary, all_fields, entries_with, entry_at, entry_targets, is_passed_over, no_entry, passed_over_from, reference_graph, reference_of, source_of, sources, with_source}
use Rattle.haya_bibtex_inherited.specs.References.{ReferenceBytes, references}
use Rattle.haya_bibtex_inherited.proofs.Filling.{targets_at}

abbrev pub ReferToNone : List EntryBytes → Type 0
ReferToNone es = All (λ e. references e ≡ []) es

-- their own fields
abbrev pub own : List EntryBytes → List (List FieldBytes)
own es = map (λ e. e.fields) es

no_sources_at : (es : List EntryBytes) → ReferToNone es → (i : ℕ) → i < length es → sources es (entry_at es i) ≡ []
no_sources_at es h i l = ap (map (source_of es)) (h i no_entry l)

own_at : (back : ℕ → ℕ → Bool) (es : List EntryBytes) (all : List (List FieldBytes)) → ReferToNone es → (i : ℕ) → i < length es
    → all_fields back es all i ≡ (entry_at es i).fields
own_at back es all h i l =
    ap (λ ss. fold (with_source back es all i) (entry_at es i).fields ss) (no_sources_at es h i l)

field_at : (es : List EntryBytes) (i : ℕ) → i < length es → get_or (own es) i [] ≡ (entry_at es i).fields
field_at es i l = get_or-map (λ e. e.fields) es i no_entry [] l

all_own : (back : ℕ → ℕ → Bool) (es : List EntryBytes) (all : List (List FieldBytes)) → ReferToNone es → AreAllFields back es all → all ≡ own es
all_own back es all h a =
    ext_get_or [] all (own es) (a.as_many ∙ sym (length-map es (λ e. e.fields)))
    (λ i l. let k : i < length es = omega (arith, l, a.as_many) in
    a.each i k ∙ own_at back es all h i k ∙ sym (field_at es i k))

passed_none : (back : ℕ → ℕ → Bool) (n : ℕ) (es xs : List EntryBytes) → ReferToNone xs → passed_over_from back n (map (sources es) xs) ≡ []
passed_none back n es [] h = refl
passed_none back n es (x ∷ xs) h =
    let none : sources es x ≡ [] = ap (map (source_of es)) (All-head (λ e. references e ≡ []) x xs h) in
    ap (λ ss. map reference_of (filter (is_passed_over back n) ss) ++ passed_over_from back (n + 1) (map (sources es) xs)) none
    ∙ passed_none back (n + 1) es xs (All-tail (λ e. references e ≡ []) x xs h)

no_targets : (es : List EntryBytes) → ReferToNone es → (i j : ℕ) → i < length (reference_graph es) → Contains (targets (reference_graph es) i) j → ⊥
no_targets es h i j l c =
    let k : i < length es = omega (arith, l, length-map es (entry_targets es)) in
    let none : targets (reference_graph es) i ≡ [] = targets_at es i k ∙ ap (filter_map (λ s. s.position)) (no_sources_at es h i k) in
    let d = subst (λ (v : List ℕ). Contains v j) none c in
    omega (arith, d.1)

-- their library
pub own_library : (es : List EntryBytes) → ReferToNone es → IsLibrary es (entries_with es (own es)) []
own_library es h = record {
  back = λ _ _. false;
  circles = λ i j l c. absurd (no_targets es h i j l c);
  all = own es;
  fields = record {
    as_many = length-map es (λ e. e.fields);
    each = λ i l. field_at es i l ∙ sym (own_at (λ _ _. false) es (own es) h i l);
  };
  entries = refl;
  passed_over = sym (passed_none (λ _ _. false) 0 es es h);
}

-- they have no other
pub only_own : (es library : List EntryBytes) (passed : List ReferenceBytes) → ReferToNone es → IsLibrary es library passed
    → (library ≡ entries_with es (own es)) × (passed ≡ [])
only_own es library passed h l = (
  l.entries ∙ ap (entries_with es) (all_own l.back es l.all h l.fields),
  l.passed_over ∙ passed_none l.back 0 es es h,
)
