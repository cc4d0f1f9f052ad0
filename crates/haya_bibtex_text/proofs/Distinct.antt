-- Fields of which no two have one name: all of them stay.
use Rattle.std.proofs.Common.{◌≡◌, ◌+◌, ◌<◌, ℕ, suc, ◌&&◌, ◌||◌, Bool, true, false, not, List, [], ◌∷◌, length, get_or, drop, drop-cons, add-one, map, refl, ap, sym, ◌∙◌}
use Rattle.std.proofs.lemmas.Str.{IsUtf8-string_bytes, encodes-chars}
use Rattle.std.specs.Str.{IsUtf8, bytes_eq, chars}
use Rattle.std.specs.String.{string_bytes}
use Rattle.haya_bibtex_text.proofs.Lookups.{bytes_eq-chars}
use Rattle.haya_bibtex_text.specs.Bibliography.{FieldText, comes_again, last_fields, other_names}
use Rattle.haya_bibtex_text.specs.BibliographyViews.{field_texts}
use Rattle.haya_bibtex_text.specs.declared.entry.Field.{Field}

-- no name comes again
abbrev pub are_distinct : List FieldText → Bool
are_distinct [] = true
are_distinct (f ∷ fs) = not (comes_again fs f.name) && are_distinct fs

both : (a b : Bool) → (a && b) ≡ true → (a ≡ true) × (b ≡ true)
both true b e = (refl, e)
both false b e = cc

is_not : (b : Bool) → not b ≡ true → b ≡ false
is_not false e = refl
is_not true e = cc

pub all_last : (fs : List FieldText) → are_distinct fs ≡ true → last_fields fs ≡ fs
all_last [] h = refl
all_last (f ∷ fs) h =
    let p = both (not (comes_again fs f.name)) (are_distinct fs) h in
    rw (is_not (comes_again fs f.name) p.0) (ap (λ l. f ∷ l) (all_last fs p.1))

pub no_other : (fs : List FieldText) → are_distinct fs ≡ true → other_names fs ≡ []
no_other [] h = refl
no_other (f ∷ fs) h =
    let p = both (not (comes_again fs f.name)) (are_distinct fs) h in
    rw (is_not (comes_again fs f.name) p.0) (no_other fs p.1)

-- names are compared by their bytes
pub same_name : (xs ys : List ℕ) → IsUtf8 xs → IsUtf8 ys → bytes_eq xs ys ≡ bytes_eq (chars xs) (chars ys)
same_name xs ys u v = ap (bytes_eq xs) (sym (encodes-chars ys v)) ∙ bytes_eq-chars xs (chars ys) u

-- the first of the fields that are left has the name, or one behind it
abbrev is_named : Field → List ℕ → Bool
is_named f n = bytes_eq (chars (string_bytes f.name)) n

comes_here : (fs : List Field) (i : ℕ) (f : Field) (n : List ℕ) → i < length fs → f ≡ get_or fs i f →
    comes_again (map field_texts (drop i fs)) n ≡ (is_named f n || comes_again (map field_texts (drop (i + 1) fs)) n)
comes_here fs i f n l is =
    let here : drop i fs ≡ f ∷ drop (i + 1) fs = rw add-one (drop-cons fs i f l ∙ ap (λ g. g ∷ drop (suc i) fs) (sym is)) in
    ap (λ gs. comes_again (map field_texts gs) n) here

pub comes_now : (fs : List Field) (i : ℕ) (f : Field) (name : List ℕ) (whole : Bool) → IsUtf8 name → i < length fs → f ≡ get_or fs i f →
    whole ≡ comes_again (map field_texts (drop i fs)) (chars name) → bytes_eq (string_bytes f.name) name ≡ true → true ≡ whole
comes_now fs i f name whole u l is h e =
    let named : is_named f (chars name) ≡ true = sym (same_name (string_bytes f.name) name (IsUtf8-string_bytes f.name) u) ∙ e in
    sym (h ∙ (comes_here fs i f (chars name) l is ∙ ap (λ b. b || comes_again (map field_texts (drop (i + 1) fs)) (chars name)) named))

pub comes_later : (fs : List Field) (i : ℕ) (f : Field) (name : List ℕ) (whole : Bool) → IsUtf8 name → i < length fs → f ≡ get_or fs i f →
    whole ≡ comes_again (map field_texts (drop i fs)) (chars name) → bytes_eq (string_bytes f.name) name ≡ false →
    whole ≡ comes_again (map field_texts (drop (i + 1) fs)) (chars name)
comes_later fs i f name whole u l is h e =
    let named : is_named f (chars name) ≡ false = sym (same_name (string_bytes f.name) name (IsUtf8-string_bytes f.name) u) ∙ e in
    h ∙ (comes_here fs i f (chars name) l is ∙ ap (λ b. b || comes_again (map field_texts (drop (i + 1) fs)) (chars name)) named)
