-- Sorts of a list, and of what is taken of one.
use Rattle.std.proofs.Common.{◌≡◌, ◌+◌, ◌<◌, Bool, true, false, cond, not, ◌&&◌, List, [], ◌∷◌, filter, length, get_or, map, refl, sym, ap, ◌∙◌, arith, is_lt}
use Rattle.std.specs.Prelude.{All, IsPermutation, IsSorted}
use Rattle.std.specs.List.Sorted.{IsStable, ties}
use Rattle.std.specs.declared.cmp.Ordering.{Ordering}
use Rattle.std.proofs.lemmas.List.{get_or-map, length-map}
use Rattle.std.proofs.lemmas.List.Elements.{All-head, All-map, All-tail}
use Rattle.std.proofs.lemmas.List.Sorted.{All-permutation, IsPermutation-map, IsPermutation-refl}
use Rattle.haya_questions.specs.Order.{all_tied}
use Rattle.haya_questions.specs.Ranked.{IsSortOf}

-- a list is a sort of itself where all tie
pub unsorted : {A : Type 0} (xs : List A) → IsSortOf all_tied xs xs
unsorted xs = record { same = IsPermutation-refl xs; sorted = λ k d low high. refl; stable = λ k d within. refl }

module _ {P A : Type 0} (item : P → A) where
  pushed : (b : Bool) (k : P) (kept : List P) → cond b (item k ∷ map item kept) (map item kept) ≡ map item (cond b (k ∷ kept) kept)
  pushed true k kept = refl
  pushed false k kept = refl

  pub filter-items : (p : A → Bool) (kept : List P) → filter p (map item kept) ≡ map item (filter (λ k. p (item k)) kept)
  filter-items p [] = refl
  filter-items p (k ∷ kept) = ap (λ l. cond (p (item k)) (item k ∷ l) l) (filter-items p kept) ∙ pushed (p (item k)) k (filter (λ k. p (item k)) kept)

  pub filter-alike : (p q : P → Bool) (kept : List P) → All (λ k. p k ≡ q k) kept → filter p kept ≡ filter q kept
  filter-alike p q [] all = refl
  filter-alike p q (k ∷ kept) all =
      ap (λ b. cond b (k ∷ filter p kept) (filter p kept)) (All-head (λ k. p k ≡ q k) k kept all)
      ∙ ap (λ l. cond (q k) (k ∷ l) l) (filter-alike p q kept (All-tail (λ k. p k ≡ q k) k kept all))

  module _ (order : A → A → Ordering) (inner : P → P → Ordering) (IsKept : P → Type 0) (agree : (a b : P) → IsKept a → IsKept b → order (item a) (item b) ≡ inner a b) where
    abbrev is_less : A → A → Bool
    is_less a b = is_lt (order a b)

    abbrev is_kept_less : P → P → Bool
    is_kept_less a b = is_lt (inner a b)

    sorted : (kept : List P) → All IsKept kept → IsSorted inner kept → IsSorted order (map item kept)
    sorted [] all up k d low high = absurd (omega arith)
    sorted (x ∷ xs) all up k d low high =
        let within : k + 1 < length (x ∷ xs) = rw length-map at high in
        rw (get_or-map item (x ∷ xs) (k + 1) x d within, get_or-map item (x ∷ xs) k x d (omega arith))
        (ap is_lt (agree (get_or (x ∷ xs) (k + 1) x) (get_or (x ∷ xs) k x) (all (k + 1) x within) (all k x (omega arith))) ∙ up k x low within)

    tie : (a b : P) → IsKept a → IsKept b → ties is_less (item a) (item b) ≡ ties is_kept_less a b
    tie a b p q =
        ap (λ o. not (is_lt o) && not (is_lt (order (item b) (item a)))) (agree a b p q)
        ∙ ap (λ o. not (is_lt (inner a b)) && not (is_lt o)) (agree b a q p)

    same_ties : (x : P) → IsKept x → (kept : List P) → All IsKept kept
        → filter (ties is_less (item x)) (map item kept) ≡ map item (filter (ties is_kept_less x) kept)
    same_ties x p kept all =
        filter-items (ties is_less (item x)) kept
        ∙ ap (map item) (filter-alike (λ k. ties is_less (item x) (item k)) (ties is_kept_less x) kept (λ i d within. tie x (get_or kept i d) p (all i d within)))

    stable : (before after : List P) → All IsKept before → All IsKept after → IsStable inner before after
        → All (λ x. filter (ties is_less x) (map item after) ≡ filter (ties is_less x) (map item before)) (map item before)
    stable before after p q s =
        All-map (λ x. filter (ties is_less x) (map item after) ≡ filter (ties is_less x) (map item before)) item before
        (λ i d within.
        let x = get_or before i d in
        same_ties x (p i d within) after q ∙ ap (map item) (s x) ∙ sym (same_ties x (p i d within) before p))

    -- what is taken of a sorted list is sorted
    pub sort_of : (before after : List P) → All IsKept before → IsPermutation before after → IsSorted inner after
        → IsStable inner before after → IsSortOf order (map item before) (map item after)
    sort_of before after p same up s =
        let q = All-permutation IsKept before after same p in
        record { same = IsPermutation-map item before after same; sorted = sorted after q up; stable = stable before after p q s }
