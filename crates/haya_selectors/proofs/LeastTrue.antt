-- In a least assignment each row is true at its position.
use Rattle.std.proofs.Common.{◌≡◌, ℕ, zero, suc, Bool, true, false, List, [], ◌∷◌, length, map, get_or, Some, ap, subst}
use Rattle.std.specs.Prelude.{All, ◌==◌, not, flat_map, slice_get}
use Rattle.std.specs.List.{AllZip, list_any, range_with_len}
use Rattle.std.proofs.lemmas.List.Elements.{All-nil, All-cons, All-head, All-tail, All-append, All-filter, All-map, All-weaker, filter_passes}
use Rattle.haya_assignment.specs.Assignment.{Table, IsTrueAt, true_positions, not_taken, assignments_beside, assignments, least}

true_at : (row : List Bool) (i : ℕ) → get_or row i false ≡ true → IsTrueAt row i
true_at [] i e = absurd (cc)
true_at (b ∷ row) zero e = ap Some e
true_at (b ∷ row) (suc i) e = true_at row i e

true_there : (row : List Bool) (taken : List ℕ) → All (IsTrueAt row) (not_taken taken (true_positions row))
true_there row taken =
    let passes = filter_passes (λ i. get_or row i false) (range_with_len 0 (length row)) in
    All-filter (λ i. not (list_any (λ t. t == i) taken)) (IsTrueAt row) (true_positions row)
    (All-weaker (λ i. get_or row i false ≡ true) (IsTrueAt row) (true_at row) (true_positions row) passes)

all_true : (taken : List ℕ) (table : Table) → All (AllZip IsTrueAt table) (assignments_beside taken table)
all_true taken [] = All-cons (AllZip IsTrueAt []) [] [] tt (All-nil (AllZip IsTrueAt []))
all_true taken (row ∷ rows) = each (λ i. all_true (i ∷ taken) rows) (not_taken taken (true_positions row)) (true_there row taken) where
  each : ((i : ℕ) → All (AllZip IsTrueAt rows) (assignments_beside (i ∷ taken) rows)) → (positions : List ℕ) → All (IsTrueAt row) positions
      → All (AllZip IsTrueAt (row ∷ rows)) (flat_map (λ i. map (λ is. i ∷ is) (assignments_beside (i ∷ taken) rows)) positions)
  each rest [] h = All-nil (AllZip IsTrueAt (row ∷ rows))
  each rest (i ∷ others) h =
      let here : IsTrueAt row i = All-head (IsTrueAt row) i others h in
      let them = assignments_beside (i ∷ taken) rows in
      let first = All-weaker (AllZip IsTrueAt rows) (λ is. AllZip IsTrueAt (row ∷ rows) (i ∷ is)) (λ is k. (here, k)) them (rest i) in
      All-append (AllZip IsTrueAt (row ∷ rows)) (map (λ is. i ∷ is) them) _ (All-map (AllZip IsTrueAt (row ∷ rows)) (λ is. i ∷ is) them first) (each rest others (All-tail (IsTrueAt row) i others h))

first_of : {A : Type 0} (P : A → Type 0) (xs : List A) (x : A) → All P xs → slice_get xs 0 ≡ Some x → P x
first_of P [] x h e = absurd (cc)
first_of P (y ∷ ys) x h e = let same : y ≡ x = cc in subst P same (All-head P y ys h)

pub least_true : (table : Table) (is : List ℕ) → least table ≡ Some is → AllZip IsTrueAt table is
least_true table is e = first_of (AllZip IsTrueAt table) (assignments table) is (all_true [] table) e
