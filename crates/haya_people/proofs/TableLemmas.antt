-- Tables as `is_sorted` and `binary_search` speak of them.
use Rattle.std.proofs.Common.{◌≡◌, ◌↔◌, ℕ, suc, zero, ◌+◌, ◌<◌, Bool, true, false, ◌&&◌, List, [], ◌∷◌, length, get_or, inl, inr, refl, sym, ◌∙◌, arith, add-one, Some, Result, Ok, Err}
use Rattle.std.specs.Borrow.{Bor}
use Rattle.std.specs.Cmp.Lexicographic.{slice_cmp, texts_ties}
use Rattle.std.specs.List.{list_any, All, AllAdjacentBelow, IsAllAdjacentAnswer}
use Rattle.std.specs.List.Sorted.{IsSorted, IsSortedBy, IsSearchInRange, IsBinarySearchResult, IsPartitionPoint}
use Rattle.std.specs.Prelude.{is_ok}
use Rattle.std.specs.declared.cmp.Ordering.{Ordering}
use Rattle.std.specs.declared.cmp.Ordering.TheVariants as order
use Rattle.std.proofs.lemmas.Cmp.{nat_list_cmp_total, tied_back}
use Rattle.std.proofs.lemmas.Bool.{false_from_ne_true, cases_lt}
use Rattle.std.proofs.lemmas.List.Folds.{list_any_at, list_any_none}
use Rattle.std.proofs.lemmas.List.Sorted.{searchable_from_sorted}
use Rattle.std.specs.Ordering.{is_le, is_lt, is_eq, ordering_reverse, nat_cmp, is_some_and}
use Rattle.std.specs.Str.{bytes_eq}
use Rattle.haya_people.specs.Tables.{texts, is_sorted_table, is_listed}
use Rattle.haya_text.proofs.Tells.{and-both, both-and}

abbrev upto : Bor (List ℕ) → Bor (List ℕ) → Bool
upto x y = is_le (slice_cmp nat_cmp x.now y.now)

sorted-from_adjacent : (table : List (Bor (List ℕ))) → AllAdjacentBelow (λ x y. upto x y ≡ true) table (length table) → is_sorted_table (texts table) ≡ true
sorted-from_adjacent [] h = refl
sorted-from_adjacent (x ∷ []) h = refl
sorted-from_adjacent (x ∷ y ∷ rest) h =
    let here : upto x y ≡ true = h 0 x (omega arith) in
    let later : AllAdjacentBelow (λ a b. upto a b ≡ true) (y ∷ rest) (length (y ∷ rest)) = λ k d lt. rw add-one (rw add-one at (h (suc k) d (omega arith))) in
    both-and _ _ here (sorted-from_adjacent (y ∷ rest) later)

and-false : (a b : Bool) → b ≡ false → (a && b) ≡ false
and-false true b h = h
and-false false b h = refl

-- a neighbour that is above the next one
unsorted-from_pair : (table : List (Bor (List ℕ))) (k : ℕ) → k + 1 < length table → ((d : Bor (List ℕ)) → upto (get_or table k d) (get_or table (k + 1) d) ≡ false) → is_sorted_table (texts table) ≡ false
unsorted-from_pair [] k lt h = absurd (omega arith)
unsorted-from_pair (x ∷ []) k lt h = absurd (omega arith)
unsorted-from_pair (x ∷ y ∷ rest) zero lt h = let here : upto x y ≡ false = h x in rw here refl
unsorted-from_pair (x ∷ y ∷ rest) (suc k) lt h =
    let later : is_sorted_table (texts (y ∷ rest)) ≡ false = unsorted-from_pair (y ∷ rest) k (omega arith) (λ d. rw add-one (rw add-one at (h d))) in
    and-false _ _ later

pub sorted_table-is_sorted : (table : List (Bor (List ℕ))) (r : Bool) → IsAllAdjacentAnswer (λ x y b. is_some_and is_le (Some (slice_cmp nat_cmp x.now y.now)) ≡ b) table r → r ≡ is_sorted_table (texts table)
sorted_table-is_sorted table true h = sym (sorted-from_adjacent table h)
sorted_table-is_sorted table false h = sym (unsorted-from_pair table h.0 h.1 h.2)

is_le-swapped : (o : Ordering) → is_le o ≡ true → is_lt (ordering_reverse o) ≡ false
is_le-swapped order.Less h = refl
is_le-swapped order.Equal h = refl
is_le-swapped order.Greater h = cc

is_le-unswapped : (o : Ordering) → is_lt o ≡ false → is_le (ordering_reverse o) ≡ true
is_le-unswapped order.Less h = cc
is_le-unswapped order.Equal h = refl
is_le-unswapped order.Greater h = refl

is_le-flip : (x y : List ℕ) → is_le (slice_cmp nat_cmp x y) ≡ true → is_lt (slice_cmp nat_cmp y x) ≡ false
is_le-flip x y h = rw (nat_list_cmp_total.antisymm y x) (is_le-swapped _ h)

-- a table in order is sorted as std says it
IsSorted-table : (table : List (Bor (List ℕ))) → is_sorted_table (texts table) ≡ true → IsSortedBy (λ a b. is_lt (slice_cmp nat_cmp a.now b.now)) table
IsSorted-table [] h k d low lt = absurd (omega arith)
IsSorted-table (x ∷ []) h k d low lt = absurd (omega arith)
IsSorted-table (x ∷ y ∷ rest) h zero d low lt = is_le-flip x.now y.now (and-both _ _ h).0
IsSorted-table (x ∷ y ∷ rest) h (suc k) d low lt = rw add-one (rw add-one at (IsSorted-table (y ∷ rest) (and-both _ _ h).1 k d (omega arith) (omega arith)))

is_eq-Equal : (o : Ordering) → is_eq o ≡ true → o ≡ order.Equal
is_eq-Equal order.Less h = cc
is_eq-Equal order.Equal h = refl
is_eq-Equal order.Greater h = cc

equal-listed : (x text : List ℕ) → slice_cmp nat_cmp x text ≡ order.Equal → bytes_eq text x ≡ true
equal-listed x text h = rw (texts_ties text x, tied_back nat_list_cmp_total x text h) refl

unequal-listed : (x text : List ℕ) → (slice_cmp nat_cmp x text ≡ order.Equal → ⊥) → bytes_eq text x ≡ false
unequal-listed x text h = false_from_ne_true _ (λ e. h (tied_back nat_list_cmp_total text x (is_eq-Equal _ (sym (texts_ties text x) ∙ e))))

list_any-texts : (p : List ℕ → Bool) (table : List (Bor (List ℕ))) → list_any p (texts table) ≡ list_any (λ t. p t.now) table
list_any-texts p [] = refl
list_any-texts p (t ∷ ts) = rw (list_any-texts p ts) refl

-- each text before the place is lower, and each other one is higher
none_listed : (table : List (Bor (List ℕ))) (text : List ℕ) (i : ℕ) → IsPartitionPoint (λ y. slice_cmp nat_cmp y.now text ≡ order.Less) (λ y. slice_cmp nat_cmp y.now text ≡ order.Greater) table i
    → All (λ t. bytes_eq text t.now ≡ false) table
none_listed table text i h k d lt =
    unequal-listed (get_or table k d).now text
    (λ e. elim (cases_lt k i) [
      | inl before ↦ let low : slice_cmp nat_cmp (get_or table k d).now text ≡ order.Less = h.0 k d (omega arith) before in cc
      | inr after ↦ let high : slice_cmp nat_cmp (get_or table k d).now text ≡ order.Greater = h.1 k d after lt in cc
    ])

-- what a binary search answers in a table that is in order
pub is_listed-searched : (table : List (Bor (List ℕ))) (text : List ℕ) (r : Result ℕ ℕ) → is_sorted_table (texts table) ≡ true
    → IsSearchInRange r (length table) → IsBinarySearchResult (λ y. slice_cmp nat_cmp y.now text) table r → is_ok r ≡ is_listed (texts table) text
is_listed-searched [] text (Ok k) s range h = absurd (omega arith)
is_listed-searched (x ∷ rest) text (Ok k) s range h =
    rw list_any-texts (sym (list_any_at (λ t. bytes_eq text t.now) (x ∷ rest) k x range (equal-listed _ text (h x))))
is_listed-searched table text (Err k) s range h =
    let parts = h (searchable_from_sorted nat_list_cmp_total (λ t. t.now) table text (IsSorted-table table s)) in
    rw list_any-texts (sym (list_any_none (λ t. bytes_eq text t.now) table (none_listed table text k parts)))

-- the same for a table's texts themselves
adjacent-from_sorted : (x y : List ℕ) → is_lt (slice_cmp nat_cmp y x) ≡ false → is_le (slice_cmp nat_cmp x y) ≡ true
adjacent-from_sorted x y h = rw (nat_list_cmp_total.antisymm x y) (is_le-unswapped _ h)

pub sorted-as_std : (table : List (List ℕ)) → (is_sorted_table table ≡ true) ↔ IsSorted (slice_cmp nat_cmp) table
sorted-as_std table = (there table, back table)
  where
    there : (table : List (List ℕ)) → is_sorted_table table ≡ true → IsSorted (slice_cmp nat_cmp) table
    there [] h k d low lt = absurd (omega arith)
    there (x ∷ []) h k d low lt = absurd (omega arith)
    there (x ∷ y ∷ rest) h zero d low lt = is_le-flip x y (and-both _ _ h).0
    there (x ∷ y ∷ rest) h (suc k) d low lt = rw add-one (rw add-one at (there (y ∷ rest) (and-both _ _ h).1 k d (omega arith) (omega arith)))

    back : (table : List (List ℕ)) → IsSorted (slice_cmp nat_cmp) table → is_sorted_table table ≡ true
    back [] h = refl
    back (x ∷ []) h = refl
    back (x ∷ y ∷ rest) h =
        let later : IsSorted (slice_cmp nat_cmp) (y ∷ rest) = λ k d low lt. rw add-one (rw add-one at (h (suc k) d (omega arith) (omega arith))) in
        both-and _ _ (adjacent-from_sorted x y (h 0 x (omega arith) (omega arith))) (back (y ∷ rest) later)
