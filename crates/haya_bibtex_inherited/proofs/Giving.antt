-- Fields that come to others.
use Rattle.std.proofs.Common.{◌≡◌, ◌<◌, ℕ, ◌+◌, Bool, true, false, cond, ◌||◌, List, [], ◌∷◌, ◌++◌, Option, Some, length, get_or, drop, refl, ap, sym, ◌∙◌}
use Rattle.std.specs.Prelude.{is_some}
use Rattle.std.specs.List.{flat_map}
use Rattle.std.specs.Str.{bytes_eq}
use Rattle.std.proofs.lemmas.List.{drop_more}
use Rattle.std.proofs.lemmas.List.Folds.{list_any-append}
use Rattle.std.proofs.lemmas.List.Sums.{fold-append}
use Rattle.haya_bibtex_inherited.specs.Entries.{FieldBytes, has_field}
use Rattle.haya_bibtex_inherited.specs.Inherited.{with_field, with_fields}
use Rattle.haya_bibtex_inherited.specs.Views.{field_view, fields_view}
use Rattle.haya_bibtex_inherited.specs.declared.field.FieldRef.{FieldRef}

-- a map of names, with one more
pub knows_more : {X : Type 0} (fs gs : List FieldBytes) (f : FieldBytes) (q : List ℕ) (old new : Option X) (w : X)
    → new ≡ cond (bytes_eq f.name q) (Some w) old → is_some old ≡ has_field fs q → gs ≡ fs ++ f ∷ [] → is_some new ≡ has_field gs q
knows_more fs gs f q old new w is was e =
    ap is_some is ∙ by (bytes_eq f.name q) (is_some old) refl
    ∙ ap (λ b. b || (bytes_eq f.name q || false)) was
    ∙ sym (list_any-append (λ g. bytes_eq g.name q) fs (f ∷ [])) ∙ ap (λ v. has_field v q) (sym e)
  where
    by : (b o : Bool) → is_some old ≡ o → is_some (cond b (Some w) old) ≡ (is_some old || (b || false))
    by true true e = rw e refl
    by true false e = rw e refl
    by false true e = rw e refl
    by false false e = rw e refl

-- a field that gives some, and then those behind it
pub given_more : (h : FieldBytes → List FieldBytes) (acc acc' total : List FieldBytes) (xs : List FieldRef) (k : ℕ) (x : FieldRef) → k < length xs → x ≡ get_or xs k x
    → with_fields acc (flat_map h (fields_view (drop k xs))) ≡ total → acc' ≡ with_fields acc (h (field_view x))
    → with_fields acc' (flat_map h (fields_view (drop (k + 1) xs))) ≡ total
given_more h acc acc' total xs k x l is was next =
    let rest = flat_map h (fields_view (drop (k + 1) xs)) in
    let d : drop k xs ≡ x ∷ drop (k + 1) xs = drop_more xs k x l ∙ ap (λ y. y ∷ drop (k + 1) xs) (sym is) in
    ap (λ a. with_fields a rest) next ∙ sym (fold-append with_field acc (h (field_view x)) rest)
    ∙ ap (λ ys. with_fields acc (flat_map h (fields_view ys))) (sym d) ∙ was
