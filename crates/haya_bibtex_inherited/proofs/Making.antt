-- Entries with their fields, from the last on, and references that are passed over.
use Rattle.std.proofs.Common.{◌≡◌, ◌<◌, ℕ, ◌+◌, Bool, true, false, cond, List, [], ◌∷◌, ◌++◌, length, get_or, map, drop, reverse, refl, ap, sym, ◌∙◌, arith, append-nil, append_assoc, Vec}
use Rattle.std.specs.Prelude.{codes, filter, string_bytes}
use Rattle.std.specs.Str.{bytes_eq}
use Rattle.std.proofs.lemmas.List.{drop_more, drop_all, drop-map, length_push, length-append, reverse-append}
use Rattle.haya_bibtex_text.specs.declared.entry.Entry.{Entry}
use Rattle.haya_bibtex_inherited.specs.Inherited.{Source, is_passed_over, entries_with, passed_over_from, reference_of}
use Rattle.haya_bibtex_inherited.specs.Lists.{lists_view}
use Rattle.haya_bibtex_inherited.specs.References.{ReferenceBytes}
use Rattle.haya_bibtex_inherited.specs.Sources.{all_sources_view, source_view, sources_view}
use Rattle.haya_bibtex_inherited.specs.Views.{entry_bytes, entry_view, fields_view, reference_view}
use Rattle.haya_bibtex_inherited.specs.declared.field.FieldRef.{FieldRef}
use Rattle.haya_bibtex_inherited.specs.declared.library.EntryRef.{EntryRef}
use Rattle.haya_bibtex_inherited.specs.declared.source.Source.{Source as FoundSource}

-- ---- entries
-- of all lists these are left, and the others are in the library
pub record IsMade {Z : Type 0} (es : List Entry) (all left : List (Vec FieldRef Z)) (library : List EntryRef) : Type 0 where
  pub done : List (Vec FieldRef Z)
  pub parts : all ≡ left ++ done
  pub made : map entry_view (reverse library) ≡ entries_with (map entry_bytes (drop (length left) es)) (lists_view done)

pub IsMade-start : {Z : Type 0} (es : List Entry) (all : List (Vec FieldRef Z)) (library : List EntryRef) → length all ≡ length es → library ≡ [] → IsMade es all all library
IsMade-start es all library l e =
    record {
      done = [];
      parts = sym (append-nil all);
      made = rw (e, drop_all (length all) es (omega (arith, l))) refl;
    }

-- how many are left is a place of the entries
pub place_within : {Z : Type 0} (es : List Entry) (all left rest : List (Vec FieldRef Z)) (v : Vec FieldRef Z) (library : List EntryRef) → length all ≡ length es → IsMade es all left library → left ≡ rest ++ v ∷ []
    → length rest < length es
place_within es all left rest v library l m e =
    let a : length all ≡ length left + length m.done = ap length m.parts ∙ length-append left m.done in
    let b : length left ≡ length rest + 1 = ap length e ∙ length_push rest v in
    omega (arith, a, b, l)

module _ {Z : Type 0} (es : List Entry) (all left rest : List (Vec FieldRef Z)) (v : Vec FieldRef Z) (library : List EntryRef) (e : Entry) where
  one_less : IsMade es all left library → left ≡ rest ++ v ∷ [] → (m : IsMade es all left library) → all ≡ rest ++ v ∷ m.done
  one_less _ is m = m.parts ∙ ap (λ w. w ++ m.done) is ∙ append_assoc rest (v ∷ []) m.done

  entries_left : left ≡ rest ++ v ∷ [] → length rest < length es → e ≡ get_or es (length rest) e → drop (length rest) es ≡ e ∷ drop (length left) es
  entries_left is l at =
      let long : length rest + 1 ≡ length left = sym (ap length is ∙ length_push rest v) in
      drop_more es (length rest) e l ∙ ap (λ y. y ∷ drop (length rest + 1) es) (sym at) ∙ ap (λ n. e ∷ drop n es) long

  -- an entry that isn't in the library
  pub IsMade-xdata : IsMade es all left library → left ≡ rest ++ v ∷ [] → length rest < length es → e ≡ get_or es (length rest) e → bytes_eq (string_bytes e.kind) (codes "xdata") ≡ true
      → IsMade es all rest library
  IsMade-xdata m is l at xdata =
      record {
        done = v ∷ m.done;
        parts = one_less m is m;
        made = m.made
            ∙ sym (ap (λ ds. entries_with (map entry_bytes ds) (lists_view (v ∷ m.done))) (entries_left is l at)
            ∙ ap (λ b. cond b (entries_with (map entry_bytes (drop (length left) es)) (lists_view m.done))
            (record { kind = string_bytes e.kind; key = string_bytes e.key; fields = fields_view v.items } ∷ entries_with (map entry_bytes (drop (length left) es)) (lists_view m.done))) xdata);
      }

  -- an entry that is
  pub IsMade-entry : (r : EntryRef) (more : List EntryRef) → IsMade es all left library → left ≡ rest ++ v ∷ [] → length rest < length es → e ≡ get_or es (length rest) e → bytes_eq (string_bytes e.kind) (codes "xdata") ≡ false
      → entry_view r ≡ record { kind = string_bytes e.kind; key = string_bytes e.key; fields = fields_view v.items } → more ≡ library ++ r ∷ [] → IsMade es all rest more
  IsMade-entry r more m is l at other view next =
      record {
        done = v ∷ m.done;
        parts = one_less m is m;
        made = ap (λ w. map entry_view (reverse w)) next ∙ ap (map entry_view) (reverse-append library (r ∷ []))
            ∙ ap (λ w. entry_view r ∷ w) m.made ∙ ap (λ w. w ∷ entries_with (map entry_bytes (drop (length left) es)) (lists_view m.done)) view
            ∙ sym (ap (λ ds. entries_with (map entry_bytes ds) (lists_view (v ∷ m.done))) (entries_left is l at)
            ∙ ap (λ b. cond b (entries_with (map entry_bytes (drop (length left) es)) (lists_view m.done))
            (record { kind = string_bytes e.kind; key = string_bytes e.key; fields = fields_view v.items } ∷ entries_with (map entry_bytes (drop (length left) es)) (lists_view m.done))) other);
      }

pub IsMade-end : {Z : Type 0} (es : List Entry) (all left : List (Vec FieldRef Z)) (library : List EntryRef) → IsMade es all left library → left ≡ [] → map entry_view (reverse library) ≡ entries_with (map entry_bytes es) (lists_view all)
IsMade-end es all left library m e =
    let d : all ≡ m.done = m.parts ∙ ap (λ w. w ++ m.done) e in
    m.made ∙ ap (λ w. entries_with (map entry_bytes (drop (length w) es)) (lists_view m.done)) e ∙ sym (ap (λ w. entries_with (map entry_bytes es) (lists_view w)) d)

-- ---- references that are passed over
module _ (p : Source → Bool) (rs rs' total : List ReferenceBytes) (xs : List FoundSource) (k : ℕ) (x : FoundSource) where
  here : k < length xs → x ≡ get_or xs k x → drop k xs ≡ x ∷ drop (k + 1) xs
  here l is = drop_more xs k x l ∙ ap (λ y. y ∷ drop (k + 1) xs) (sym is)

  pub passed_more : k < length xs → x ≡ get_or xs k x → rs ++ map reference_of (filter p (sources_view (drop k xs))) ≡ total → p (source_view x) ≡ true
      → rs' ≡ rs ++ reference_view x.reference ∷ [] → rs' ++ map reference_of (filter p (sources_view (drop (k + 1) xs))) ≡ total
  passed_more l is was passes next =
      let rest = sources_view (drop (k + 1) xs) in
      ap (λ w. w ++ map reference_of (filter p rest)) next ∙ append_assoc rs (reference_view x.reference ∷ []) (map reference_of (filter p rest))
      ∙ sym (ap (λ ys. rs ++ map reference_of (filter p (sources_view ys))) (here l is)
      ∙ ap (λ b. rs ++ map reference_of (cond b (source_view x ∷ filter p rest) (filter p rest))) passes)
      ∙ was

  pub passed_less : k < length xs → x ≡ get_or xs k x → rs ++ map reference_of (filter p (sources_view (drop k xs))) ≡ total → p (source_view x) ≡ false
      → rs ++ map reference_of (filter p (sources_view (drop (k + 1) xs))) ≡ total
  passed_less l is was fails =
      let rest = sources_view (drop (k + 1) xs) in
      sym (ap (λ ys. rs ++ map reference_of (filter p (sources_view ys))) (here l is)
      ∙ ap (λ b. rs ++ map reference_of (cond b (source_view x ∷ filter p rest) (filter p rest))) fails)
      ∙ was

-- those of one entry more
pub passed_from_more : {Z : Type 0} (back : ℕ → ℕ → Bool) (rs rs' total : List ReferenceBytes) (all : List (Vec FoundSource Z)) (k : ℕ) (v : Vec FoundSource Z) → k < length all → v ≡ get_or all k v
    → rs ++ passed_over_from back k (drop k (all_sources_view all)) ≡ total → rs' ≡ rs ++ map reference_of (filter (is_passed_over back k) (sources_view v.items))
    → rs' ++ passed_over_from back (k + 1) (drop (k + 1) (all_sources_view all)) ≡ total
passed_from_more back rs rs' total all k v l is was next =
    let d : drop k all ≡ v ∷ drop (k + 1) all = drop_more all k v l ∙ ap (λ y. y ∷ drop (k + 1) all) (sym is) in
    let e : drop k (all_sources_view all) ≡ sources_view v.items ∷ drop (k + 1) (all_sources_view all) =
    drop-map (λ v. sources_view v.items) k all ∙ ap all_sources_view d ∙ ap (λ w. sources_view v.items ∷ w) (sym (drop-map (λ v. sources_view v.items) (k + 1) all)) in
    ap (λ w. w ++ passed_over_from back (k + 1) (drop (k + 1) (all_sources_view all))) next
    ∙ append_assoc rs (map reference_of (filter (is_passed_over back k) (sources_view v.items))) (passed_over_from back (k + 1) (drop (k + 1) (all_sources_view all)))
    ∙ sym (ap (λ w. rs ++ passed_over_from back k w) e) ∙ was
