-- Hits are sorted as what is kept beside them is.
use Rattle.std.proofs.Common.{◌≡◌, Bool, List, [], ◌∷◌, length, map, refl, sym, ap, ◌∙◌, arith}
use Rattle.std.specs.Prelude.{All, Box, IsPermutation, IsSorted}
use Rattle.std.specs.List.Sorted.{IsStable}
use Rattle.std.specs.Ordering.{on, ordering_then}
use Rattle.std.specs.declared.alloc.Global.{Global}
use Rattle.std.proofs.lemmas.List.Elements.{All-cons, All-nil}
use Rattle.hayagriva.specs.declared.query.Hit.{Hit}
use Rattle.haya_questions.specs.Order.{SortKeyView, hit_order, key_order}
use Rattle.haya_questions.specs.Ranked.{IsSortOf, boxed_ranks, ranked, ranked_order}
use Rattle.haya_questions.specs.SortText.{sort_key_view}
use Rattle.haya_questions.specs.declared.sort_key.SortKey.{SortKey}
use Rattle.haya_questions.specs.declared.sorting.RankedHit.{RankedHit}
use Rattle.haya_questions.proofs.Sorts as sorts

-- the directions of keys
abbrev ways : List SortKeyView → List Bool
ways keys = map (λ key. key.is_reversed) keys

-- hits are in the order of what is kept beside them
agree : (keys : List SortKeyView) (a b : Hit) → hit_order keys a b ≡ ranked_order (ways keys) (ranked keys a) (ranked keys b)
agree [] a b = refl
agree (key ∷ keys) a b = ap (ordering_then (key_order key a b)) (agree keys a b)

-- without keys hits stay as they are
pub sort_by_none : (keys : List SortKey) (hits : List Hit) → length keys ≡ 0 → IsSortOf (hit_order (map sort_key_view keys)) hits hits
sort_by_none [] hits h = sorts.unsorted hits
sort_by_none (key ∷ keys) hits h = absurd (let e : length (key ∷ keys) ≡ 0 = h in omega arith)

head_same : {A : Type 0} (x y : A) (xs ys : List A) → x ∷ xs ≡ y ∷ ys → x ≡ y
head_same x y xs ys h = cc

tail_same : {A : Type 0} (x y : A) (xs ys : List A) → x ∷ xs ≡ y ∷ ys → xs ≡ ys
tail_same x y xs ys h = cc

abbrev Kept : Type 0
Kept = Box RankedHit Global

abbrev hit : Kept → Hit
hit kept = kept.value.hit

module _ (keys : List SortKeyView) where
  abbrev IsKept : Kept → Type 0
  IsKept k = boxed_ranks k ≡ ranked keys (hit k)

  all_kept : (kept : List Kept) → map boxed_ranks kept ≡ map (ranked keys) (map hit kept) → All IsKept kept
  all_kept [] h = All-nil IsKept
  all_kept (k ∷ kept) h =
      All-cons IsKept k kept (head_same _ _ _ _ h) (all_kept kept (tail_same _ _ _ _ h))

  same_order : (a b : Kept) → IsKept a → IsKept b → hit_order keys (hit a) (hit b) ≡ on boxed_ranks (ranked_order (ways keys)) a b
  same_order a b p q =
      agree keys (hit a) (hit b)
      ∙ sym (ap (λ x. ranked_order (ways keys) x (boxed_ranks b)) p ∙ ap (ranked_order (ways keys) (ranked keys (hit a))) q)

  -- the hits of what is sorted are sorted
  pub sort_of : (before after : List Kept) → map boxed_ranks before ≡ map (ranked keys) (map hit before) → IsPermutation before after
      → IsSorted (on boxed_ranks (ranked_order (ways keys))) after → IsStable (on boxed_ranks (ranked_order (ways keys))) before after
      → IsSortOf (hit_order keys) (map hit before) (map hit after)
  sort_of before after kept same up s =
      sorts.sort_of hit (hit_order keys) (on boxed_ranks (ranked_order (ways keys))) IsKept same_order before after (all_kept before kept) same up s
