-- Elements that are printed are parts of texts.
use Rattle.std.proofs.Common.{◌≡◌, ℕ, suc, Bool, true, false, cond, List, [], ◌∷◌, ◌++◌, Some, refl, sym, arith, flat_map, option_map, reverse, subst}
use Rattle.std.specs.Prelude.{find}
use Rattle.std.specs.List.{AllByRecursion, AllZip, Contains}
use Rattle.std.proofs.lemmas.List.{reverse-append}
use Rattle.std.proofs.lemmas.Slice.Eq.{bytes_eq-Decides}
use Rattle.hayagriva.specs.Library.{has_key, key_of}
use Rattle.hayagriva.specs.Query.{hit_entry}
use Rattle.hayagriva.specs.declared.query.Hit.{Hit}
use Rattle.haya_slices.specs.Layout.{IsPartOf}
use Rattle.haya_source.specs.Elements.{AreElementsOf, Element, Says}
use Rattle.haya_source.specs.Places.{part_for}
use Rattle.haya_source.specs.declared.kind.ElementKind.{ElementKind}
use Rattle.haya_command.specs.Source.{AreElementsIn, IsElementFor}
use Rattle.haya_command.proofs.Sourced.{all-push}

-- the element is a part of one of the texts, and says its entry
record IsElementIn (kind : ElementKind) (texts : List (List ℕ)) (e : Element) : Type 0 where
  text : List ℕ
  among : Contains texts text
  is_part : IsPartOf e.0 text
  says : Says kind e.0 e.1

-- each element of a text is a part of it
abbrev pub PartsOf : Type 0
PartsOf =
    (kind : ElementKind) (text : List ℕ) (es : List Element) → AreElementsOf kind text es
    → AllByRecursion (λ e. IsPartOf e.0 text) es

module _ (kind : ElementKind) where
  -- among one text more
  later : (t : List ℕ) (texts : List (List ℕ)) (es : List Element)
      → AllByRecursion (IsElementIn kind texts) es
      → AllByRecursion (IsElementIn kind (t ∷ texts)) es
  later t texts [] h = tt
  later t texts (e ∷ es) h =
      let first = h.0 in (
        record {
          text = first.text;
          among = (suc first.among.0, omega (arith, first.among.1), first.among.2);
          is_part = first.is_part;
          says = first.says;
        },
        later t texts es h.1,
      )

  first_text : (t : List ℕ) (texts : List (List ℕ)) (es : List Element)
      → AllByRecursion (λ e. IsPartOf e.0 t) es → AllByRecursion (λ e. Says kind e.0 e.1) es
      → AllByRecursion (IsElementIn kind (t ∷ texts)) es
  first_text t texts [] parts says = tt
  first_text t texts (e ∷ es) parts says = (
    record { text = t; among = (0, omega arith, refl); is_part = parts.0; says = says.0 },
    first_text t texts es parts.1 says.1,
  )

  both : (texts : List (List ℕ)) (es more : List Element)
      → AllByRecursion (IsElementIn kind texts) es → AllByRecursion (IsElementIn kind texts) more
      → AllByRecursion (IsElementIn kind texts) (es ++ more)
  both texts [] more h m = m
  both texts (e ∷ es) more h m = (h.0, both texts es more h.1 m)

  all_in : PartsOf → (texts : List (List ℕ)) (parts : List (List Element))
      → AllZip (AreElementsOf kind) texts parts
      → AllByRecursion (IsElementIn kind texts) (flat_map (λ part. part) parts)
  all_in parts_of [] [] h = tt
  all_in parts_of [] (p ∷ ps) h = absurd h
  all_in parts_of (t ∷ texts) [] h = absurd h
  all_in parts_of (t ∷ texts) (p ∷ ps) h =
      both (t ∷ texts) p (flat_map (λ part. part) ps)
      (first_text t texts p (parts_of kind t p h.0) h.0.each)
      (later t texts (flat_map (λ part. part) ps) (all_in parts_of texts ps h.1))

  backwards : (texts : List (List ℕ)) (es : List Element)
      → AllByRecursion (IsElementIn kind texts) es
      → AllByRecursion (IsElementIn kind texts) (reverse es)
  backwards texts [] h = tt
  backwards texts (e ∷ es) h =
      subst (AllByRecursion (IsElementIn kind texts)) (sym (reverse-append (e ∷ []) es))
      (all-push (IsElementIn kind texts) (reverse es) e (backwards texts es h.1) h.0)

  found : (texts : List (List ℕ)) (key part : List ℕ) (es : List Element)
      → AllByRecursion (IsElementIn kind texts) es
      → option_map (λ e. e.0) (find (λ e. has_key key e.1) es) ≡ Some part
      → IsElementFor kind texts key part
  found texts key part [] h is = let no : ⊥ = cc (is) in absurd no
  found texts key part (e ∷ es) h is = by (has_key key e.1) refl is (found texts key part es h.1)
    where
      by : (b : Bool) → has_key key e.1 ≡ b
          → option_map (λ x. x.0) (cond b (Some e) (find (λ x. has_key key x.1) es)) ≡ Some part
          → (option_map (λ x. x.0) (find (λ x. has_key key x.1) es) ≡ Some part
          → IsElementFor kind texts key part)
          → IsElementFor kind texts key part
      by true has is more =
          let same : e.0 ≡ part = cc (is) in
          let first = h.0 in
          record {
            text = first.text;
            entry = e.1;
            among = first.among;
            is_part = subst (λ p. IsPartOf p first.text) same first.is_part;
            says = subst (λ p. Says kind p e.1) same first.says;
            named = sym ((bytes_eq-Decides key (key_of e.1)).0 has);
          }
      by false has is more = more is

  pub printed_are_parts : PartsOf → (texts : List (List ℕ)) (es : List Element)
      → AreElementsIn kind texts es → (hits : List Hit) (parts : List (List ℕ))
      → AllZip (λ hit part. part_for (key_of (hit_entry hit)) es ≡ Some part) hits parts
      → AllZip (λ hit part. IsElementFor kind texts (key_of (hit_entry hit)) part) hits parts
  printed_are_parts parts_of texts es are hits parts each = by hits parts each
    where
      all : AllByRecursion (IsElementIn kind texts) es
      all = subst (AllByRecursion (IsElementIn kind texts)) (sym are.all)
          (all_in parts_of texts are.parts are.each)

      by : (hs : List Hit) (ps : List (List ℕ))
          → AllZip (λ hit part. part_for (key_of (hit_entry hit)) es ≡ Some part) hs ps
          → AllZip (λ hit part. IsElementFor kind texts (key_of (hit_entry hit)) part) hs ps
      by [] [] h = tt
      by [] (p ∷ ps) h = absurd h
      by (x ∷ hs) [] h = absurd h
      by (x ∷ hs) (p ∷ ps) h =
          (found texts (key_of (hit_entry x)) p (reverse es) (backwards texts es all) h.0, by hs ps h.1)
