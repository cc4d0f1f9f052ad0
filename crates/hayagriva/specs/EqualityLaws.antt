-- The laws of `==` of two libraries: it says that they are equal, and so it is symmetric and
-- transitive.
use Rattle.std.specs.Prelude.{◌≡◌, ◌&&◌, ℕ, Bool, true, false, List, [], ◌∷◌, ◌++◌, Option, None, Some, map}
use Rattle.std.specs.Bool.{Decides, one_answer}
use Rattle.std.specs.Cmp.{IsPartialEquivalence}
use Rattle.std.specs.List.{list_all}
use Rattle.std.specs.Option.{option_eq}
use Rattle.std.specs.Str.{bytes_eq}
use Rattle.std.proofs.Common.{refl, sym, ap, ◌∙◌, subst}
use Rattle.std.proofs.lemmas.Bool.Decides.{Decides-eqb}
use Rattle.std.proofs.lemmas.List.Folds.{list_all-append}
use Rattle.std.proofs.lemmas.Slice.Eq.{bytes_eq-Decides}
use base.Stored.{Gv, gnil, gnum, gcons}
use Rattle.haya_entry.specs.Tree.{Tree}
use Rattle.hayagriva.specs.Library.{key_of, get, AreEqual}
use Rattle.hayagriva.specs.Equality.{agree_at, library_eq}
use Rattle.hayagriva.specs.TreeCode.{same_code, same_tree, tree_code, tree_inj}

and-both : (a b : Bool) → (a && b) ≡ true → (a ≡ true) × (b ≡ true)
and-both true b h = (refl, h)
and-both false b h = absurd (cc)

both-and : (a b : Bool) → a ≡ true → b ≡ true → (a && b) ≡ true
both-and a b h k = rw (h, k) refl

same_code-Decides : (x y : Gv) → Decides (same_code x y) (x ≡ y)
same_code-Decides gnil gnil = (λ _. refl, λ _. refl)
same_code-Decides (gnum m) (gnum n) =
    (λ h. ap gnum ((Decides-eqb m n).0 h), λ h. (Decides-eqb m n).1 (cc))
same_code-Decides (gcons a b) (gcons c d) =
    let first = same_code-Decides a c in let second = same_code-Decides b d in (
      λ h.
          let both = and-both (same_code a c) (same_code b d) h in
          let p : a ≡ c = first.0 both.0 in
          let q : b ≡ d = second.0 both.1 in
          cc,
      λ h.
          let p : a ≡ c = cc in
          let q : b ≡ d = cc in
          both-and (same_code a c) (same_code b d) (first.1 p) (second.1 q),
    )
same_code-Decides _ _ = (λ h. cc, λ h. cc)

same_tree-Decides : (s t : Tree) → Decides (same_tree s t) (s ≡ t)
same_tree-Decides s t =
    let same = same_code-Decides (tree_code s) (tree_code t) in
    (λ h. tree_inj s t (same.0 h), λ h. same.1 (ap tree_code h))

pub options-Decides : (o p : Option Tree) → Decides (option_eq same_tree o p) (o ≡ p)
options-Decides None None = (λ _. refl, λ _. refl)
options-Decides (Some s) (Some t) =
    (λ h. ap (λ x. Some x) ((same_tree-Decides s t).0 h), λ h. (same_tree-Decides s t).1 (cc))
options-Decides _ _ = (λ h. cc, λ h. cc)

passes : (test : List ℕ → Bool) (keys : List (List ℕ)) → ((key : List ℕ) → test key ≡ true)
    → list_all test keys ≡ true
passes test [] h = refl
passes test (k ∷ ks) h = both-and (test k) (list_all test ks) (h k) (passes test ks h)

-- a test that passes at the key of each entry passes at the key of one that is found
passes_found : (test : List ℕ → Bool) (key : List ℕ) (ts : List Tree) (t : Tree)
    → list_all test (map key_of ts) ≡ true → get key ts ≡ Some t → test key ≡ true
passes_found test key [] t h f = cc
passes_found test key (u ∷ us) t h f =
    by (passes_found test key us t) (bytes_eq key (key_of u)) refl
  where
    passed : (test (key_of u) ≡ true) × (list_all test (map key_of us) ≡ true)
    passed = and-both (test (key_of u)) (list_all test (map key_of us)) h

    by : (list_all test (map key_of us) ≡ true → get key us ≡ Some t → test key ≡ true)
        → (b : Bool) → bytes_eq key (key_of u) ≡ b → test key ≡ true
    by rest true same =
        subst (λ k. test k ≡ true) (sym ((bytes_eq-Decides key (key_of u)).0 same)) passed.0
    by rest false other = rest passed.1 (rw other at f)

module _ (a b : List Tree) where
  halves : library_eq a b ≡ true
      → (list_all (agree_at a b) (map key_of a) ≡ true)
      × (list_all (agree_at a b) (map key_of b) ≡ true)
  halves h =
      and-both (list_all (agree_at a b) (map key_of a)) (list_all (agree_at a b) (map key_of b))
      (sym (list_all-append (agree_at a b) (map key_of a) (map key_of b)) ∙ h)

  agrees : library_eq a b ≡ true → AreEqual a b
  agrees h key = by (get key a) (get key b) refl refl
    where
      at : agree_at a b key ≡ true → get key a ≡ get key b
      at = (options-Decides (get key a) (get key b)).0

      by : (o p : Option Tree) → get key a ≡ o → get key b ≡ p → get key a ≡ get key b
      by (Some s) p f g = at (passes_found (agree_at a b) key a s (halves h).0 f)
      by None (Some t) f g = at (passes_found (agree_at a b) key b t (halves h).1 g)
      by None None f g = f ∙ sym g

  pub library_eq-Decides : Decides (library_eq a b) (AreEqual a b)
  library_eq-Decides = (
    agrees,
    λ h. passes (agree_at a b) (map key_of a ++ map key_of b)
        (λ key. (options-Decides (get key a) (get key b)).1 (h key)),
  )

pub library_laws : IsPartialEquivalence library_eq
library_laws = record {
  symm = λ a b.
      one_answer (library_eq a b) (library_eq b a) (library_eq-Decides a b) (
        λ h key. sym ((library_eq-Decides b a).0 h key),
        λ h. (library_eq-Decides b a).1 (λ key. sym (h key)),
      );
  trans = λ a b c h k.
      (library_eq-Decides a c).1
      (λ key. (library_eq-Decides a b).0 h key ∙ (library_eq-Decides b c).0 k key);
}
