-- The least assignment taken apart by the first row, and the places that are left to the other rows.
use Rattle.std.proofs.Common.{◌≡◌, map, ℕ, zero, suc, None, Option, ◌+◌, ◌<◌, Bool, true, false, cond, List, [], ◌∷◌, ◌++◌, length, get_or, refl, ap, ◌∙◌, arith}
use Rattle.std.specs.Prelude.{⊤, ◌==◌, not, ◌||◌, filter, flat_map, option_map, slice_get}
use Rattle.std.specs.List.{list_any, range_with_len}
use Rattle.std.specs.Option.{option_or}
use Rattle.std.proofs.lemmas.Bool.Decides.{nat_tests}
use Rattle.std.proofs.lemmas.List.{length-map}
use Rattle.std.proofs.lemmas.Option.{slice_get-map}
use Rattle.haya_assignment.specs.Assignment.{Table, assignments_beside, not_taken, true_positions}
use Rattle.haya_selectors.specs.Places.{places, at_place}

-- ---- the first of a list
-- the first thing that is made of an item, if one is made of any
abbrev pub first_some : {X Y : Type 0} → (X → Option Y) → List X → Option Y
first_some f [] = None
first_some f (x ∷ xs) = option_or (f x) (first_some f xs)

first_some-same : {X Y : Type 0} {f g : X → Option Y} (same : (x : X) → f x ≡ g x) (xs : List X) → first_some f xs ≡ first_some g xs
first_some-same same [] = refl
first_some-same same (x ∷ xs) = rw (same x, first_some-same same xs) refl

first-append : {Y : Type 0} (ys zs : List Y) → slice_get (ys ++ zs) 0 ≡ option_or (slice_get ys 0) (slice_get zs 0)
first-append [] zs = refl
first-append (y ∷ ys) zs = refl

first-flat_map : {X Y : Type 0} (f : X → List Y) (xs : List X) → slice_get (flat_map f xs) 0 ≡ first_some (λ x. slice_get (f x) 0) xs
first-flat_map f [] = refl
first-flat_map f (x ∷ xs) = first-append (f x) (flat_map f xs) ∙ ap (option_or (slice_get (f x) 0)) (first-flat_map f xs)

-- ---- the least assignment
abbrev pub least_beside : List ℕ → Table → Option (List ℕ)
least_beside taken table = slice_get (assignments_beside taken table) 0

pub least_beside-cons : (taken : List ℕ) (row : List Bool) (rows : Table)
    → least_beside taken (row ∷ rows) ≡ first_some (λ i. option_map (λ is. i ∷ is) (least_beside (i ∷ taken) rows)) (not_taken taken (true_positions row))
least_beside-cons taken row rows =
    first-flat_map (λ i. map (λ is. i ∷ is) (assignments_beside (i ∷ taken) rows)) (not_taken taken (true_positions row))
    ∙ first_some-same (λ i. slice_get-map (λ is. i ∷ is) (assignments_beside (i ∷ taken) rows) 0) (not_taken taken (true_positions row))

-- ---- places
pub filter-same : {A : Type 0} {p q : A → Bool} (same : (a : A) → p a ≡ q a) (xs : List A) → filter p xs ≡ filter q xs
filter-same same [] = refl
filter-same same (x ∷ xs) = rw (same x, filter-same same xs) refl

filter-swap : {A : Type 0} (p q : A → Bool) (xs : List A) → filter p (filter q xs) ≡ filter q (filter p xs)
filter-swap p q [] = refl
filter-swap p q (x ∷ xs) =
    (elim (q x) as (λ b. q x ≡ b → filter p (cond b (x ∷ filter q xs) (filter q xs)) ≡ filter q (filter p (x ∷ xs))) [
      | true ↦ λ e. (elim (p x) as (λ a. cond a (x ∷ filter p (filter q xs)) (filter p (filter q xs)) ≡ filter q (cond a (x ∷ filter p xs) (filter p xs))) [
        | true ↦ rw (e, filter-swap p q xs) refl
        | false ↦ filter-swap p q xs
      ])
      | false ↦ λ e. (elim (p x) as (λ a. filter p (filter q xs) ≡ filter q (cond a (x ∷ filter p xs) (filter p xs))) [
        | true ↦ rw (e, filter-swap p q xs) refl
        | false ↦ filter-swap p q xs
      ])
    ]) refl

get_or-at_place : {X : Type 0} (p : X → Bool) (xs : List X) (i : ℕ) → get_or (map p xs) i false ≡ at_place false p xs i
get_or-at_place p [] i = refl
get_or-at_place p (x ∷ xs) zero = refl
get_or-at_place p (x ∷ xs) (suc i) = get_or-at_place p xs i

-- the places of a member's row that aren't taken are the places that aren't taken where the member holds
pub not_taken-true : {X : Type 0} (p : X → Bool) (xs : List X) (taken : List ℕ) → not_taken taken (true_positions (map p xs)) ≡ filter (at_place false p xs) (not_taken taken (places xs))
not_taken-true p xs taken =
    ap (λ n. not_taken taken (filter (λ i. get_or (map p xs) i false) (range_with_len 0 n))) (length-map xs p)
    ∙ ap (not_taken taken) (filter-same (get_or-at_place p xs) (places xs)) ∙ filter-swap (λ i. not (list_any (λ t. t == i) taken)) (at_place false p xs) (places xs)

pub not_taken-more : (taken : List ℕ) (i : ℕ) (js : List ℕ) → not_taken (i ∷ taken) js ≡ filter (λ j. not (i == j)) (not_taken taken js)
not_taken-more taken i [] = refl
not_taken-more taken i (j ∷ js) =
    let left = filter (λ j. not (i == j)) (not_taken taken js) in
    rw (not_taken-more taken i js)
    (elim (list_any (λ t. t == j) taken) as (λ a. cond (not ((i == j) || a)) (j ∷ left) left ≡ filter (λ j. not (i == j)) (cond (not a) (j ∷ not_taken taken js) (not_taken taken js))) [
      | true ↦ elim (i == j) as (λ b. cond (not (b || true)) (j ∷ left) left ≡ left) [ true ↦ refl | false ↦ refl ]
      | false ↦ elim (i == j) as (λ b. cond (not (b || false)) (j ∷ left) left ≡ cond (not b) (j ∷ left) left) [ true ↦ refl | false ↦ refl ]
    ])

-- ---- numbers that are distinct
abbrev pub Apart : ℕ → List ℕ → Type 0
Apart i [] = ⊤
Apart i (j ∷ js) = ((i == j) ≡ false) × Apart i js

abbrev pub Distinct : List ℕ → Type 0
Distinct [] = ⊤
Distinct (i ∷ is) = Apart i is × Distinct is

above : (i k n : ℕ) → i < k → Apart i (range_with_len k n)
above i k zero h = tt
above i k (suc n) h = (grind (arith, nat_tests), above i (k + 1) n (omega arith))

range-distinct : (k n : ℕ) → Distinct (range_with_len k n)
range-distinct k zero = tt
range-distinct k (suc n) = (above k (k + 1) n (omega arith), range-distinct (k + 1) n)

filter-apart : (p : ℕ → Bool) (i : ℕ) (is : List ℕ) → Apart i is → Apart i (filter p is)
filter-apart p i [] h = tt
filter-apart p i (j ∷ js) h = elim (p j) as (λ b. Apart i (cond b (j ∷ filter p js) (filter p js))) [ true ↦ (h.0, filter-apart p i js h.1) | false ↦ filter-apart p i js h.1 ]

filter-distinct : (p : ℕ → Bool) (is : List ℕ) → Distinct is → Distinct (filter p is)
filter-distinct p [] h = tt
filter-distinct p (i ∷ is) h =
    elim (p i) as (λ b. Distinct (cond b (i ∷ filter p is) (filter p is))) [ true ↦ (filter-apart p i is h.0, filter-distinct p is h.1) | false ↦ filter-distinct p is h.1 ]

pub not_taken-distinct : {X : Type 0} (taken : List ℕ) (xs : List X) → Distinct (not_taken taken (places xs))
not_taken-distinct taken xs = filter-distinct (λ i. not (list_any (λ t. t == i) taken)) (places xs) (range-distinct 0 (length xs))

pub without-apart : (i : ℕ) (is : List ℕ) → Apart i is → filter (λ j. not (i == j)) is ≡ is
without-apart i [] h = refl
without-apart i (j ∷ js) h = rw (h.0, without-apart i js h.1) refl

pub other_way : (i k : ℕ) → (i == k) ≡ false → (k == i) ≡ false
other_way i k h = grind (arith, nat_tests)

pub itself : (i : ℕ) → (i == i) ≡ true
itself i = grind (arith, nat_tests)
