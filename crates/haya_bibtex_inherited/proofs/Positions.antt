-- The places of keys.
use Rattle.std.proofs.Common.{◌≡◌, ◌<◌, ℕ, ◌+◌, Bool, true, false, cond, List, [], ◌∷◌, Option, Some, None, length, get_or, map, drop, refl, ap, sym, ◌∙◌, arith}
use Rattle.std.specs.Prelude.{IfSome}
use Rattle.std.specs.Option.{option_map}
use Rattle.std.specs.Str.{bytes_eq}
use Rattle.std.proofs.lemmas.List.{drop_more}
use Rattle.haya_bibtex_text.specs.declared.entry.Entry.{Entry}
use Rattle.haya_bibtex_inherited.specs.Entries.{EntryBytes}
use Rattle.haya_bibtex_inherited.specs.References.{position_of}
use Rattle.haya_bibtex_inherited.specs.Views.{entry_bytes}

-- the places in a list, with an entry in front of it
shifted : (o : Option ℕ) (i : ℕ) → option_map (λ k. k + (i + 1)) o ≡ option_map (λ k. k + i) (option_map (λ k. k + 1) o)
shifted None i = refl
shifted (Some k) i = let e : k + (i + 1) ≡ k + 1 + i = omega arith in ap Some e

pub place_more : (es : List Entry) (i : ℕ) (e : Entry) (key : List ℕ) (old new : Option ℕ) → i < length es → e ≡ get_or es i e
    → old ≡ option_map (λ k. k + (i + 1)) (position_of (map entry_bytes (drop (i + 1) es)) key)
    → new ≡ cond (bytes_eq (entry_bytes e).key key) (Some i) old
    → new ≡ option_map (λ k. k + i) (position_of (map entry_bytes (drop i es)) key)
place_more es i e key old new l is was next =
    let d : drop i es ≡ e ∷ drop (i + 1) es = drop_more es i e l ∙ ap (λ y. y ∷ drop (i + 1) es) (sym is) in
    next ∙ by (bytes_eq (entry_bytes e).key key) ∙ ap (λ v. option_map (λ k. k + i) (position_of (map entry_bytes v) key)) (sym d)
  where
    by : (b : Bool) → cond b (Some i) old ≡ option_map (λ k. k + i) (cond b (Some 0) (option_map (λ k. k + 1) (position_of (map entry_bytes (drop (i + 1) es)) key)))
    by true = let z : i ≡ 0 + i = omega arith in ap Some z
    by false = was ∙ shifted (position_of (map entry_bytes (drop (i + 1) es)) key) i

shifted_none : (o : Option ℕ) → option_map (λ k. k + 0) o ≡ o
shifted_none None = refl
shifted_none (Some k) = let e : k + 0 ≡ k = omega arith in ap Some e

pub places_all : (es : List EntryBytes) (key : List ℕ) (r : Option ℕ) → r ≡ option_map (λ k. k + 0) (position_of es key) → r ≡ position_of es key
places_all es key r e = e ∙ shifted_none (position_of es key)

-- a key's place is one of the list's
pub position_within : (es : List EntryBytes) (key : List ℕ) → IfSome (position_of es key) (λ i. i < length es)
position_within [] key = tt
position_within (e ∷ es) key = by (bytes_eq e.key key) (position_of es key) (position_within es key) where
  by : (b : Bool) (o : Option ℕ) → IfSome o (λ i. i < length es) → IfSome (cond b (Some 0) (option_map (λ i. i + 1) o)) (λ i. i < length (e ∷ es))
  by true o h = let z : 0 < length (e ∷ es) = omega arith in z
  by false None h = tt
  by false (Some i) h = let z : i + 1 < length (e ∷ es) = omega (arith, h) in z
