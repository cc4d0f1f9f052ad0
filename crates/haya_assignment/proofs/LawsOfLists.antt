-- The laws of assignments.
use Rattle.std.proofs.Common.{◌≡◌, ℕ, suc, ◌<◌, ◌≤◌, true, false, List, [], ◌∷◌, ◌++◌, length, get_or, map, Option, None, Some, refl, sym, ap, ◌∙◌, subst, arith, inl, inr}
use Rattle.std.specs.Prelude.{All, flat_map, is_some, option_and_then, option_map, slice_get}
use Rattle.std.specs.List.{AllZip, list_any, range_with_len}
use Rattle.std.proofs.lemmas.List.{get_or_default, get_or-map, length-map}
use Rattle.std.proofs.lemmas.List.Folds.{list_any-from_Any}
use Rattle.std.proofs.lemmas.List.Kept.{AllPairs-from_increasing}
use Rattle.std.proofs.lemmas.Option.{get_or_from_slice_get, slice_get-get_or, slice_get_within}
use Rattle.haya_assignment.specs.Answer.{accepted_positions}
use Rattle.haya_assignment.specs.Assignment.{Table, ComesBefore, IsAssignment, IsExclusive, IsTrueAt, assignments_beside, greedy, greedy_beside, not_taken, true_positions}
use Rattle.haya_assignment.specs.Laws.{AreAllAssignments, AreInOrder, GreedyFinds, GreedyIsLeast, LeastComesFirst, NoLeast, ShortHasNone}
use Rattle.haya_assignment.specs.Placed.{accepts, IsApart}
use Rattle.haya_assignment.proofs.Bridging.{assigned_length, placed_assigned}
use Rattle.haya_assignment.proofs.Listing.{Contains-filter, Contains-from_not_taken, Contains-from_true_positions, Contains-not_taken, Contains-range, Contains-true_positions, IsFree, IsTrueAt-from_get_or, assignment_contained, assignments_ascend, contains_assignment, free_cons, least_assigned, least_cases, none_least}
use Rattle.haya_assignment.proofs.Numbers.{at_most_those, differ}
use Rattle.haya_assignment.proofs.Reaching.{accepts_below}

pub are_all_assignments : AreAllAssignments
are_all_assignments table is = (contains_assignment table is, assignment_contained table is)

pub are_in_order : AreInOrder
are_in_order = assignments_ascend

pub least_comes_first : LeastComesFirst
least_comes_first table is e = (
  least_assigned table is e,
  λ others a ne.
      let w = least_cases table others a in
      let same : w.0 ≡ is = let whole = sym w.1 ∙ e in cc in
      elim w.2 [
        | inl f ↦ absurd (ne (sym f ∙ same))
        | inr b ↦ subst (λ (js : List ℕ). ComesBefore js others) same b
      ],
)

pub no_least : NoLeast
no_least table = (
  λ e is a. let w = least_cases table is a in let whole = sym w.1 ∙ e in absurd (cc),
  none_least table,
)

-- ---- greedy
first-map : {X Y : Type 0} (f : X → Y) (xs : List X) (ys : List Y) (x : X) → slice_get xs 0 ≡ Some x → slice_get (map f xs ++ ys) 0 ≡ Some (f x)
first-map f [] ys x e = absurd (cc)
first-map f (z ∷ xs) ys x e = let same : z ≡ x = cc in ap (λ z. Some (f z)) same

first-flat_map : {X : Type 0} (f : X → List (List ℕ)) (xs : List X) (x : X) → slice_get xs 0 ≡ Some x → (ys : List (List ℕ)) × (flat_map f xs ≡ f x ++ ys)
first-flat_map f [] x e = absurd (cc)
first-flat_map f (z ∷ xs) x e = let same : z ≡ x = cc in (flat_map f xs, ap (λ z. f z ++ flat_map f xs) same)

greedy-first : (taken : List ℕ) (table : Table) (is : List ℕ) → greedy_beside taken table ≡ Some is → slice_get (assignments_beside taken table) 0 ≡ Some is
greedy-first taken [] is e = e
greedy-first taken (row ∷ rows) is e =
    (elim (slice_get (not_taken taken (true_positions row)) 0) as (λ o. slice_get (not_taken taken (true_positions row)) 0 ≡ o → option_and_then (λ i. option_map (λ is. i ∷ is) (greedy_beside (i ∷ taken) rows)) o ≡ Some is
    → slice_get (assignments_beside taken (row ∷ rows)) 0 ≡ Some is) [
      | None ↦ λ k h. absurd (cc)
      | Some i ↦ λ k h. (elim (greedy_beside (i ∷ taken) rows) as (λ o. greedy_beside (i ∷ taken) rows ≡ o → option_map (λ is. i ∷ is) o ≡ Some is → slice_get (assignments_beside taken (row ∷ rows)) 0 ≡ Some is) [
        | None ↦ λ g h. absurd (cc)
        | Some js ↦ λ g h.
            let block = λ (i : ℕ). map (λ (is : List ℕ). i ∷ is) (assignments_beside (i ∷ taken) rows) in
            let w = first-flat_map block (not_taken taken (true_positions row)) i k in
            ap (λ (all : List (List ℕ)). slice_get all 0) w.1 ∙ first-map (λ (is : List ℕ). i ∷ is) (assignments_beside (i ∷ taken) rows) w.0 js (greedy-first (i ∷ taken) rows js g) ∙ h
      ]) refl h
    ]) refl e

pub greedy_is_least : GreedyIsLeast
greedy_is_least table is e = greedy-first [] table is e

map-some : {A B : Type 0} (f : A → B) (o : Option A) → is_some (option_map f o) ≡ is_some o
map-some f None = refl
map-some f (Some a) = refl

-- each row is true somewhere, and at no position that is taken
abbrev AreOpen : List ℕ → Table → Type 0
AreOpen taken [] = Unit {0}
AreOpen taken (row ∷ rows) = ((i : ℕ) × IsTrueAt row i) × ((i : ℕ) → IsTrueAt row i → IsFree taken i) × AreOpen taken rows

-- they stay so where a row takes a position at which they aren't true
still-open : (taken : List ℕ) (i : ℕ) (table : Table) → All (λ row. ¬ IsTrueAt row i) table → AreOpen taken table → AreOpen (i ∷ taken) table
still-open taken i [] apart open' = tt
still-open taken i (row ∷ rows) apart open' = (
  open'.0,
  (λ j here. free_cons i j taken (λ same. apart 0 row (let l : 0 < suc (length rows) = omega arith in l) (subst (IsTrueAt row) (sym same) here)) (open'.1 j here)),
  still-open taken i rows (λ k d h. apart (suc k) d (omega arith)) open'.2,
)

greedy-open : (taken : List ℕ) (table : Table) → IsExclusive table → AreOpen taken table → is_some (greedy_beside taken table) ≡ true
greedy-open taken [] exclusive open' = refl
greedy-open taken (row ∷ rows) exclusive open' =
    (elim (slice_get (not_taken taken (true_positions row)) 0) as (λ o. slice_get (not_taken taken (true_positions row)) 0 ≡ o → is_some (option_and_then (λ i. option_map (λ is. i ∷ is) (greedy_beside (i ∷ taken) rows)) o) ≡ true) [
      | None ↦ λ k.
          let i = open'.0.0 in
          let there = Contains-not_taken taken (true_positions row) i (Contains-true_positions row i (get_or_from_slice_get row i true false open'.0.1)) (open'.1 i open'.0.1) in
          absurd (let l = slice_get-get_or (not_taken taken (true_positions row)) 0 i (let l : there.0 < length (not_taken taken (true_positions row)) = there.1 in omega arith) in cc)
      | Some i ↦ λ k.
          let free = Contains-from_not_taken taken (true_positions row) i (0, slice_get_within (not_taken taken (true_positions row)) 0 i k, get_or_from_slice_get (not_taken taken (true_positions row)) 0 i i k) in
          let here : IsTrueAt row i = IsTrueAt-from_get_or row i (Contains-from_true_positions row i free.0) in
          let others : IsExclusive rows = λ m n d below within. exclusive (suc m) (suc n) d (omega arith) (omega arith) in
          map-some (λ is. i ∷ is) (greedy_beside (i ∷ taken) rows)
          ∙ greedy-open (i ∷ taken) rows others (still-open taken i rows (λ n d within. exclusive 0 (suc n) d (omega arith) (omega arith) i here) open'.2)
    ]) refl

all-open : (table : Table) (is : List ℕ) → AllZip IsTrueAt table is → AreOpen [] table
all-open [] [] h = tt
all-open [] (i ∷ is) h = absurd h
all-open (row ∷ rows) [] h = absurd h
all-open (row ∷ rows) (i ∷ is) h = ((i, h.0), (λ j here. refl), all-open rows is h.1)

pub greedy_finds : GreedyFinds
greedy_finds table exclusive = (
  λ h. found (greedy table) refl h,
  λ a. greedy-open [] table exclusive (all-open table a.0 a.1.accepted),
)
  where
    found : (o : Option (List ℕ)) → greedy table ≡ o → is_some o ≡ true → (positions : List ℕ) × IsAssignment table positions
    found None e h = absurd (cc)
    found (Some positions) e h = (positions, least_assigned table positions (greedy_is_least table positions e))

-- ---- members that are short of positions
pub short_has_none : ShortHasNone
unfolding accepts
short_has_none table parents members is width short a =
    let place : ℕ → ℕ = λ m. get_or is m 0 in
    let zs = map place members in
    let placed = placed_assigned table is a in
    let long : length is ≡ length table = assigned_length table is a in
    let as_many : length zs ≡ length members = length-map members place in
    let at : (k : ℕ) → k < length members → get_or zs k 0 ≡ place (get_or members k 0) = λ k h. get_or-map place members k 0 0 h in
    let known : (k : ℕ) → k < length members → get_or members k 0 < length is = λ k h. let l : get_or members k 0 < length table = short.known k 0 h in omega arith in
    let apart : IsApart zs = λ i j l h.
    let hj : j < length members = omega arith in
    let hi : i < length members = omega arith in
    let less : get_or members i 0 < get_or members j 0 = AllPairs-from_increasing members short.ascending i j 0 l hj in
    rw (at i hi, at j hj) (differ is placed.apart (get_or members i 0) (get_or members j 0) (known i hi) (known j hj) (λ e. omega arith)) in
    let most : length zs ≤ length (accepted_positions table parents members) = at_most_those zs (accepted_positions table parents members) apart (λ k h.
    let hk : k < length members = omega arith in
    let m = get_or members k 0 in
    let ok : accepts table m (place m) ≡ true = placed.accepted m (known k hk) in
    let within : place m < parents = accepts_below table parents m (place m) width ok in
    rw (at k hk) (Contains-filter (λ i. list_any (λ m. get_or (get_or table m []) i false) members) (range_with_len 0 parents) (place m) (Contains-range parents (place m) within)
    (list_any-from_Any (λ n. get_or (get_or table n []) (place m) false) members (k, m, hk, get_or_default members k m 0 hk, ok)))) in
    let fewer : length (accepted_positions table parents members) < length members = short.fewer in
    absurd (omega arith)
