-- The places of names: a name whose place isn't taken is that of no field.
use Rattle.std.proofs.Common.{◌≡◌, ◌+◌, ◌*◌, ◌%◌, ℕ, Bool, true, false, List, [], ◌∷◌, None, length, get_or, refl, ap, sym, ◌∙◌}
use Rattle.std.proofs.lemmas.List.Elements.{All-head, All-tail}
use Rattle.std.proofs.lemmas.Slice.Eq.{bytes_eq-Decides}
use Rattle.std.specs.Prelude.{All, slice_index}
use Rattle.std.specs.Str.{bytes_eq}
use Rattle.haya_bibtex_inherited.specs.Entries.{has_field, text_of}
use Rattle.haya_bibtex_inherited.specs.Views.{fields_view}
use Rattle.haya_bibtex_inherited.specs.declared.field.FieldRef.{FieldRef}

-- the place of a name
abbrev pub place : List ℕ → ℕ
place n = 16 * (slice_index n 0 % 16) + length n % 16

-- the place of the name of a field is taken, and those of all names are
abbrev pub IsTaken : List Bool → FieldRef → Type 0
IsTaken t r = get_or t (place r.name.now) false ≡ true

abbrev pub Taken : List Bool → List FieldRef → Type 0
Taken t fs = All (IsTaken t) fs

-- a field of this name would have taken its place
not_this : (t : List Bool) (n : List ℕ) (p : ℕ) (f : FieldRef) → IsTaken t f → p ≡ place n → get_or t p false ≡ false →
    bytes_eq f.name.now n ≡ false
not_this t n p f h e u =
    (elim (bytes_eq f.name.now n) as (λ b. bytes_eq f.name.now n ≡ b → b ≡ false) [
      | true ↦ λ q.
          let same : f.name.now ≡ n = (bytes_eq-Decides f.name.now n).0 q in
          let at : place f.name.now ≡ p = ap place same ∙ sym e in
          let found : get_or t p false ≡ true = ap (λ k. get_or t k false) (sym at) ∙ h in
          sym found ∙ u
      | false ↦ λ q. refl
    ])
    refl

pub no_text : (t : List Bool) (n : List ℕ) (p : ℕ) (fs : List FieldRef) → Taken t fs → p ≡ place n → get_or t p false ≡ false →
    text_of (fields_view fs) n ≡ None
no_text t n p [] h e u = refl
no_text t n p (f ∷ fs) h e u =
    let other : bytes_eq f.name.now n ≡ false = not_this t n p f (All-head (IsTaken t) f fs h) e u in
    rw other (no_text t n p fs (All-tail (IsTaken t) f fs h) e u)

pub no_field : (t : List Bool) (n : List ℕ) (p : ℕ) (fs : List FieldRef) → Taken t fs → p ≡ place n → get_or t p false ≡ false →
    has_field (fields_view fs) n ≡ false
no_field t n p [] h e u = refl
no_field t n p (f ∷ fs) h e u =
    let other : bytes_eq f.name.now n ≡ false = not_this t n p f (All-head (IsTaken t) f fs h) e u in
    rw other (no_field t n p fs (All-tail (IsTaken t) f fs h) e u)
