-- Open nodes that the search leaves, from the last on.
use Rattle.std.proofs.Common.{◌≡◌, ℕ, ◌+◌, ◌<◌, ◌≤◌, true, false, cond, List, [], ◌∷◌, ◌++◌, length, get_or, set, take, drop, reverse, arith, refl, ap, sym, ◌∙◌, subst, inl, inr, append_assoc}
use Rattle.std.specs.Prelude.{nat_le}
use Rattle.std.proofs.lemmas.Bool.{cases_lt, cases_eq, le-leb, lt-leb}
use Rattle.std.proofs.lemmas.List.{get_or-set_same, get_or-set_other, get_or_past, length-set, drop_more, take-take, take_at, length_push, get_or_push, get_or-take, take_all, drop_all, reverse-append}
use Rattle.haya_bibtex_inherited.specs.Search.{place_at, settled_place}
use Rattle.haya_bibtex_inherited.specs.declared.search.Place.{Place}
use Rattle.haya_bibtex_inherited.specs.declared.search.Place.TheVariants.{New, Open, Ranked}

pub reached_known : (ps : List Place) (v : ℕ) → (place_at ps v ≡ New → ⊥) → v < length ps
reached_known ps v some = elim (cases_lt v (length ps)) [
  | inl l ↦ l
  | inr g ↦ absurd (some (get_or_past ps v New g))
]

pub open_known : (ps : List Place) (v i : ℕ) → place_at ps v ≡ Open i → v < length ps
open_known ps v i e = reached_known ps v (λ new. let f = new in cc)

-- one more place is settled_place
settled_less : (k r : ℕ) (p : Place) → (p ≡ Open k → ⊥) → settled_place (k + 1) r p ≡ settled_place k r p
settled_less k r New other = refl
settled_less k r (Open i) other = elim (cases_lt i k) [
  | inl l ↦
      let a : nat_le k i ≡ false = lt-leb k i l in
      let l' : i < k + 1 = omega arith in
      let b : nat_le (k + 1) i ≡ false = lt-leb (k + 1) i l' in
      rw (a, b) refl
  | inr g ↦
      let l' : k + 1 ≤ i = elim (cases_lt k i) [
        | inl m ↦ omega arith
        | inr m ↦ let e : i ≡ k = omega arith in absurd (other (ap Open e))
      ] in
      let a : nat_le k i ≡ true = le-leb k i g in
      let b : nat_le (k + 1) i ≡ true = le-leb (k + 1) i l' in
      rw (a, b) refl
]
settled_less k r (Ranked q) other = refl

pub record IsLeaving (ps : List Place) (way order : List ℕ) (start : ℕ) (ps' : List Place) (way' order' : List ℕ) : Type 0 where
  pub as_many : length ps' ≡ length ps
  pub from : start ≤ length way'
  pub upto : length way' ≤ length way
  pub way_is : way' ≡ take (length way') way
  pub places : (v : ℕ) → place_at ps' v ≡ settled_place (length way') (length order) (place_at ps v)
  pub order_is : order' ≡ order ++ reverse (drop (length way') way)

-- no node is behind the way
settled_none : (n r : ℕ) (p : Place) → ((i : ℕ) → p ≡ Open i → i < n) → settled_place n r p ≡ p
settled_none n r New h = refl
settled_none n r (Open i) h = let a : nat_le n i ≡ false = lt-leb n i (h i refl) in rw a refl
settled_none n r (Ranked q) h = refl

pub IsLeaving-start : (ps : List Place) (way order : List ℕ) (start : ℕ) → start ≤ length way
    → ((v i : ℕ) → place_at ps v ≡ Open i → (i < length way) × (get_or way i 0 ≡ v))
    → IsLeaving ps way order start ps way order
IsLeaving-start ps way order start h opened =
    record {
      as_many = refl;
      from = h;
      upto = omega arith;
      way_is = sym (take_all (length way) way (omega arith));
      places = λ v. sym (settled_none (length way) (length order) (place_at ps v) (λ i e. (opened v i e).0));
      order_is = rw (drop_all (length way) way (omega arith)) (sym (append-nil' order));
    }
  where
    append-nil' : (xs : List ℕ) → xs ++ [] ≡ xs
    append-nil' [] = refl
    append-nil' (x ∷ xs) = ap (λ v. x ∷ v) (append-nil' xs)

-- the last on the way is one of the nodes
pub IsLeaving-known : (ps : List Place) (way order : List ℕ) (start : ℕ) (ps' : List Place) (way' order' way'' : List ℕ) (v : ℕ)
    → ((i : ℕ) → i < length way → place_at ps (get_or way i 0) ≡ Open i)
    → IsLeaving ps way order start ps' way' order' → way' ≡ way'' ++ v ∷ []
    → (get_or way (length way'') 0 ≡ v) × (place_at ps v ≡ Open (length way'')) × (v < length ps')
IsLeaving-known ps way order start ps' way' order' way'' v on_way s is =
    let k = length way'' in
    let long : length way' ≡ k + 1 = ap length is ∙ length_push way'' v in
    let up : length way' ≤ length way = s.upto in
    let k_in : k < length way = omega arith in
    let k_in' : k < length way' = omega arith in
    let node : get_or way k 0 ≡ v =
    sym (get_or-take (length way') way k 0 k_in') ∙ sym (ap (λ w. get_or w k 0) s.way_is) ∙ ap (λ w. get_or w k 0) is ∙ get_or_push way'' v 0 k refl in
    let was : place_at ps v ≡ Open k = subst (λ (x : ℕ). place_at ps x ≡ Open k) node (on_way k k_in) in
    (node, was, omega (arith, s.as_many, open_known ps v k was))

pub IsLeaving-more : (ps : List Place) (way order : List ℕ) (start : ℕ) (ps' : List Place) (way' order' way'' order'' : List ℕ) (v r : ℕ)
    → ((i : ℕ) → i < length way → place_at ps (get_or way i 0) ≡ Open i)
    → ((v i : ℕ) → place_at ps v ≡ Open i → (i < length way) × (get_or way i 0 ≡ v))
    → IsLeaving ps way order start ps' way' order' → start < length way' → way' ≡ way'' ++ v ∷ [] → order'' ≡ order' ++ v ∷ [] → r ≡ length order
    → IsLeaving ps way order start (set ps' v (Ranked r)) way'' order''
IsLeaving-more ps way order start ps' way' order' way'' order'' v r on_way opened s h is next rank =
    let k = length way'' in
    let long : length way' ≡ k + 1 = ap length is ∙ length_push way'' v in
    let up : length way' ≤ length way = s.upto in
    let k_in : k < length way = omega arith in
    let of_v = IsLeaving-known ps way order start ps' way' order' way'' v on_way s is in
    let node = of_v.0 in
    let was = of_v.1 in
    let known = of_v.2 in
    record {
      as_many = length-set ps' v (Ranked r) ∙ s.as_many;
      from = omega arith;
      upto = omega arith;
      way_is =
          let a : take k way' ≡ way'' = ap (take k) is ∙ take_at way'' (v ∷ []) k refl in
          let le : k ≤ length way' = omega arith in
          sym (sym (take-take k (length way') way le) ∙ ap (take k) (sym s.way_is) ∙ a);
      places = λ u. elim (cases_eq u v) [
        | inl e ↦
            let w : place_at ps u ≡ Open k = ap (λ x. place_at ps x) e ∙ was in
            let yes : nat_le k k ≡ true = le-leb k k (omega arith) in
            ap (λ x. place_at (set ps' v (Ranked r)) x) e ∙ get_or-set_same ps' v (Ranked r) New known ∙ ap Ranked rank
            ∙ sym (ap (settled_place k (length order)) w ∙ ap (λ b. cond b (Ranked (length order)) (Open k)) yes)
        | inr ne ↦
            get_or-set_other ps' v u (Ranked r) New ne ∙ s.places u ∙ ap (λ n. settled_place n (length order) (place_at ps u)) long
            ∙ settled_less k (length order) (place_at ps u) (λ e. ne (sym (opened u k e).1 ∙ node))
      ];
      order_is =
          let d : drop k way ≡ get_or way k 0 ∷ drop (k + 1) way = drop_more way k 0 k_in in
          next ∙ ap (λ w. w ++ v ∷ []) (s.order_is ∙ ap (λ n. order ++ reverse (drop n way)) long) ∙ append_assoc order (reverse (drop (k + 1) way)) (v ∷ [])
          ∙ ap (λ w. order ++ w) (sym (ap reverse (d ∙ ap (λ x. x ∷ drop (k + 1) way) node) ∙ reverse-append (v ∷ []) (drop (k + 1) way)));
    }

-- where nothing is left behind the start, all have been left
pub IsLeaving-end : (ps : List Place) (way order : List ℕ) (start : ℕ) (ps' : List Place) (way' order' : List ℕ) → IsLeaving ps way order start ps' way' order' → length way' ≤ start → length way' ≡ start
IsLeaving-end ps way order start ps' way' order' s h = let l = s.from in omega arith
