-- Fields that are kept or not, from the last on.
use Rattle.std.proofs.Common.{◌≡◌, ◌++◌, Bool, true, false, not, List, [], ◌∷◌, map, reverse, refl, ap, sym, ◌∙◌, append-nil, append_assoc}
use Rattle.std.proofs.Math.Path.{fun_ext}
use Rattle.std.proofs.lemmas.List.{reverse-append}
use Rattle.std.specs.Str.{chars}
use Rattle.std.specs.String.{string_bytes}
use Rattle.haya_bibtex_text.specs.Bibliography.{comes_again, field_again, last_fields, other_names}
use Rattle.haya_bibtex_text.specs.BibliographyViews.{field_texts, note_view}
use Rattle.haya_bibtex_text.specs.Names.{names_view, with_name}
use Rattle.haya_bibtex_text.specs.declared.entry.Field.{Field}
use Rattle.haya_bibtex_text.specs.declared.entry.PassedOver.{PassedOver}
use Rattle.haya_bibtex_text.specs.declared.entry.PassedOver.TheVariants as passed
use Rattle.haya_bibtex_text.specs.declared.names.Names.{Names}

-- of all the fields these are left, and what there is comes of the others
pub record IsKept (all left kept : List Field) (others : List PassedOver) (names : Names) : Type 0 where
  pub done : List Field
  pub parts : all ≡ left ++ done
  pub last : map field_texts (reverse kept) ≡ last_fields (map field_texts done)
  pub again : map note_view (reverse others) ≡ map field_again (other_names (map field_texts done))
  pub known : names_view names ≡ comes_again (map field_texts done)

pub IsKept-start : (all kept : List Field) (others : List PassedOver) (names : Names) → kept ≡ [] → others ≡ []
    → names_view names ≡ (λ _. false) → IsKept all all kept others names
IsKept-start all kept others names k o n =
    record {
      done = [];
      parts = sym (append-nil all);
      last = rw k refl;
      again = rw o refl;
      known = n ∙ fun_ext (λ m. refl);
    }

not_known : (added known : Bool) → added ≡ not known → added ≡ true → known ≡ false
not_known true false e t = refl
not_known true true e t = cc
not_known false b e t = cc

-- the fields so far, and one more
parts-more : (all left rest done : List Field) (f : Field) → all ≡ left ++ done → left ≡ rest ++ (f ∷ [])
    → all ≡ rest ++ (f ∷ done)
parts-more all left rest done f p e = p ∙ ap (λ v. v ++ done) e ∙ append_assoc rest (f ∷ []) done

known-more : (names new : Names) (done : List Field) (f : Field) → names_view names ≡ comes_again (map field_texts done)
    → names_view new ≡ with_name (names_view names) (chars (string_bytes f.name))
    → names_view new ≡ comes_again (map field_texts (f ∷ done))
known-more names new done f known e =
    e ∙ ap (λ v. with_name v (chars (string_bytes f.name))) known ∙ fun_ext (λ m. refl)

-- a field with a name that isn't known stays
pub IsKept-last : (all left rest kept more : List Field) (others : List PassedOver) (names new : Names) (f : Field) (added : Bool)
    → IsKept all left kept others names → left ≡ rest ++ (f ∷ [])
    → added ≡ not (names_view names (chars (string_bytes f.name))) → added ≡ true
    → names_view new ≡ with_name (names_view names) (chars (string_bytes f.name))
    → more ≡ kept ++ (f ∷ []) → IsKept all rest more others new
IsKept-last all left rest kept more others names new f added k e a t n is =
    let unknown : comes_again (map field_texts k.done) (chars (string_bytes f.name)) ≡ false =
    ap (λ v. v (chars (string_bytes f.name))) (sym k.known) ∙ not_known added (names_view names (chars (string_bytes f.name))) a t in
    record {
      done = f ∷ k.done;
      parts = parts-more all left rest k.done f k.parts e;
      last = rw (is, reverse-append kept (f ∷ []), unknown) (ap (λ v. field_texts f ∷ v) k.last);
      again = rw unknown k.again;
      known = known-more names new k.done f k.known n;
    }

known-again : (added known : Bool) → added ≡ not known → added ≡ false → known ≡ true
known-again true true e t = cc
known-again true false e t = cc
known-again false true e t = refl
known-again false false e t = cc

-- a field with a name that is known is passed over
pub IsKept-other : (all left rest kept : List Field) (others more : List PassedOver) (names new : Names) (f : Field) (added : Bool)
    → IsKept all left kept others names → left ≡ rest ++ (f ∷ [])
    → added ≡ not (names_view names (chars (string_bytes f.name))) → added ≡ false
    → names_view new ≡ with_name (names_view names) (chars (string_bytes f.name))
    → more ≡ others ++ (passed.Field f.name ∷ []) → IsKept all rest kept more new
IsKept-other all left rest kept others more names new f added k e a t n is =
    let again : comes_again (map field_texts k.done) (chars (string_bytes f.name)) ≡ true =
    ap (λ v. v (chars (string_bytes f.name))) (sym k.known) ∙ known-again added (names_view names (chars (string_bytes f.name))) a t in
    record {
      done = f ∷ k.done;
      parts = parts-more all left rest k.done f k.parts e;
      last = rw again k.last;
      again = rw (is, reverse-append others (passed.Field f.name ∷ []), again) (ap (λ v. field_again (chars (string_bytes f.name)) ∷ v) k.again);
      known = known-more names new k.done f k.known n;
    }
