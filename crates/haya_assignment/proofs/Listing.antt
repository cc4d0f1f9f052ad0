-- The assignments of a table in order, and the first of them.
use Rattle.std.proofs.Common.{◌≡◌, ◌≢◌, ℕ, zero, suc, ◌<◌, Bool, true, false, cond, List, [], ◌∷◌, ◌++◌, length, map, get_or, None, Some, refl, sym, ap, ◌∙◌, subst, arith, inl, inr}
use Rattle.std.specs.Prelude.{◌⊎◌, ◌||◌, ◌==◌, All, AllPairs, Contains, filter, flat_map, not}
use Rattle.std.specs.List.{AllZip, list_any, range_with_len}
use Rattle.std.proofs.lemmas.Bool.{cases_lt}
use Rattle.std.proofs.lemmas.Bool.Decides.{Decides-eqb}
use Rattle.std.proofs.lemmas.List.{get_or-map, get_or_past, length-map}
use Rattle.std.proofs.lemmas.List.Elements.{All-append, All-cons, All-contains, All-filter, All-map, All-weaker, Contains-append_cases, Contains-append_left, Contains-append_right, Contains-get_or, filter_passes}
use Rattle.std.proofs.lemmas.List.FromFn.{length-range_with_len, get_or-range_with_len}
use Rattle.std.proofs.lemmas.List.Kept.{AllPairs-cons, AllPairs-filter}
use Rattle.std.proofs.lemmas.Option.{slice_get-get_or, slice_get_within, slice_get_past, get_or_from_slice_get}
use Rattle.haya_assignment.specs.Assignment.{Table, ComesBefore, IsAssignment, IsTrueAt, assignments, assignments_beside, least, not_taken, true_positions}

-- ---- members of lists that are made of others
contains-cons : {X : Type 0} (x y : X) (xs : List X) → Contains xs y → Contains (x ∷ xs) y
contains-cons x y xs c = (suc c.0, (let l : c.0 < length xs = c.1 in omega arith), c.2)

contains-cons_cases : {X : Type 0} (x y : X) (xs : List X) → Contains (x ∷ xs) y → (x ≡ y) ⊎ Contains xs y
contains-cons_cases x y xs (zero, l, e) = inl e
contains-cons_cases x y xs (suc k, l, e) = inr (k, (let l' : suc k < suc (length xs) = l in omega arith), e)

pub Contains-filter : {X : Type 0} (p : X → Bool) (xs : List X) (x : X) → Contains xs x → p x ≡ true → Contains (filter p xs) x
Contains-filter p [] x c ok = absurd (let l : c.0 < 0 = c.1 in omega arith)
Contains-filter p (y ∷ xs) x c ok =
    elim (contains-cons_cases y x xs c) [
      | inl e ↦ subst (λ (b : Bool). Contains (cond b (y ∷ filter p xs) (filter p xs)) x) (sym (ap p e ∙ ok)) (0, (let l : 0 < suc (length (filter p xs)) = omega arith in l), e)
      | inr c ↦
          let here = Contains-filter p xs x c ok in
          elim (p y) as (λ b. Contains (cond b (y ∷ filter p xs) (filter p xs)) x) [
            | true ↦ contains-cons y x (filter p xs) here
            | false ↦ here
          ]
    ]

pub Contains-from_filter : {X : Type 0} (p : X → Bool) (xs : List X) (x : X) → Contains (filter p xs) x → Contains xs x × (p x ≡ true)
Contains-from_filter p xs x c =
    let passes = filter_passes p xs c.0 x c.1 in
    let all : Contains xs (get_or (filter p xs) c.0 x) = All-filter p (Contains xs) xs (λ k d h. Contains-get_or xs k d h) c.0 x c.1 in
    (subst (Contains xs) c.2 all, subst (λ y. p y ≡ true) c.2 passes)

pub contains-map : {X Y : Type 0} (f : X → Y) (xs : List X) (x : X) → Contains xs x → Contains (map f xs) (f x)
contains-map f xs x c =
    let l : c.0 < length (map f xs) = omega (arith, length-map xs f, c.1) in
    (c.0, l, get_or-map f xs c.0 x (f x) c.1 ∙ ap f c.2)

pub contains-from_map : {X Y : Type 0} (f : X → Y) (xs : List X) (y : Y) → Contains (map f xs) y → (x : X) × Contains xs x × (f x ≡ y)
contains-from_map f [] y c = absurd (let l : c.0 < 0 = c.1 in omega arith)
contains-from_map f (x ∷ xs) y c =
    elim (contains-cons_cases (f x) y (map f xs) c) [
      | inl e ↦ (x, (0, (let l : 0 < suc (length xs) = omega arith in l), refl), e)
      | inr c ↦ let w = contains-from_map f xs y c in (w.0, contains-cons x w.0 xs w.1, w.2)
    ]

contains-flat_map : {X Y : Type 0} (f : X → List Y) (xs : List X) (x : X) (y : Y) → Contains xs x → Contains (f x) y → Contains (flat_map f xs) y
contains-flat_map f [] x y c h = absurd (let l : c.0 < 0 = c.1 in omega arith)
contains-flat_map f (z ∷ xs) x y c h =
    elim (contains-cons_cases z x xs c) [
      | inl e ↦ Contains-append_left (f z) (flat_map f xs) y (subst (λ z. Contains (f z) y) (sym e) h)
      | inr c ↦ Contains-append_right (f z) (flat_map f xs) y (contains-flat_map f xs x y c h)
    ]

contains-from_flat_map : {X Y : Type 0} (f : X → List Y) (xs : List X) (y : Y) → Contains (flat_map f xs) y → (x : X) × Contains xs x × Contains (f x) y
contains-from_flat_map f [] y c = absurd (let l : c.0 < 0 = c.1 in omega arith)
contains-from_flat_map f (x ∷ xs) y c =
    elim (Contains-append_cases (f x) (flat_map f xs) y c) [
      | inl h ↦ (x, (0, (let l : 0 < suc (length xs) = omega arith in l), refl), h)
      | inr c ↦ let w = contains-from_flat_map f xs y c in (w.0, contains-cons x w.0 xs w.1, w.2)
    ]

-- ---- the positions where a row is true
pub Contains-range : (n i : ℕ) → i < n → Contains (range_with_len 0 n) i
Contains-range n i l =
    let long : i < length (range_with_len 0 n) = omega (arith, length-range_with_len 0 n) in
    (i, long, get_or-range_with_len 0 n i i l ∙ omega arith)

true_within : (row : List Bool) (i : ℕ) → get_or row i false ≡ true → i < length row
true_within row i ok = elim (cases_lt i (length row)) [
  | inl l ↦ l
  | inr g ↦ let no : get_or row i false ≡ false = get_or_past row i false g in absurd (cc)
]

pub Contains-true_positions : (row : List Bool) (i : ℕ) → get_or row i false ≡ true → Contains (true_positions row) i
Contains-true_positions row i ok = Contains-filter (λ i. get_or row i false) (range_with_len 0 (length row)) i (Contains-range (length row) i (true_within row i ok)) ok

pub Contains-from_true_positions : (row : List Bool) (i : ℕ) → Contains (true_positions row) i → get_or row i false ≡ true
Contains-from_true_positions row i c = (Contains-from_filter (λ i. get_or row i false) (range_with_len 0 (length row)) i c).1

pub range_ascends : (n : ℕ) → AllPairs (λ i j. i < j) (range_with_len 0 n)
range_ascends n i j d a b =
    let l : j < n = omega (arith, length-range_with_len 0 n) in
    rw (get_or-range_with_len 0 n i d (omega arith), get_or-range_with_len 0 n j d l) (omega arith)

pub true_positions_ascend : (row : List Bool) → AllPairs (λ i j. i < j) (true_positions row)
true_positions_ascend row = AllPairs-filter (λ i j. i < j) (λ i. get_or row i false) (range_with_len 0 (length row)) (range_ascends (length row))

pub IsTrueAt-from_get_or : (row : List Bool) (i : ℕ) → get_or row i false ≡ true → IsTrueAt row i
IsTrueAt-from_get_or row i ok = slice_get-get_or row i false (true_within row i ok) ∙ ap (λ (b : Bool). Some b) ok

-- ---- positions that aren't taken
abbrev pub IsFree : List ℕ → ℕ → Type 0
IsFree taken i = list_any (λ t. t == i) taken ≡ false

abbrev AreFree : List ℕ → List ℕ → Type 0
AreFree taken is = All (IsFree taken) is

pub free_cons : (t i : ℕ) (taken : List ℕ) → t ≢ i → IsFree taken i → IsFree (t ∷ taken) i
free_cons t i taken ne free =
    (elim (t == i) as (λ b. (t == i) ≡ b → (b || list_any (λ t. t == i) taken) ≡ false) [
      | true ↦ λ e. absurd (ne ((Decides-eqb t i).0 e))
      | false ↦ λ e. free
    ]) refl

free_from_cons : (t i : ℕ) (taken : List ℕ) → IsFree (t ∷ taken) i → (t ≢ i) × IsFree taken i
free_from_cons t i taken h =
    (elim (t == i) as (λ b. (t == i) ≡ b → (b || list_any (λ t. t == i) taken) ≡ false → (t ≢ i) × IsFree taken i) [
      | true ↦ λ e h. absurd (cc)
      | false ↦ λ e h. ((λ same. let t : (t == i) ≡ true = (Decides-eqb t i).1 same in absurd (cc)), h)
    ]) refl h

pub Contains-not_taken : (taken is : List ℕ) (i : ℕ) → Contains is i → IsFree taken i → Contains (not_taken taken is) i
Contains-not_taken taken is i c free = Contains-filter (λ i. not (list_any (λ t. t == i) taken)) is i c (ap not free)

pub Contains-from_not_taken : (taken is : List ℕ) (i : ℕ) → Contains (not_taken taken is) i → Contains is i × IsFree taken i
Contains-from_not_taken taken is i c =
    let w = Contains-from_filter (λ i. not (list_any (λ t. t == i) taken)) is i c in
    (w.0, free (list_any (λ t. t == i) taken) w.1)
  where
    free : (b : Bool) → not b ≡ true → b ≡ false
    free true h = absurd (cc)
    free false h = refl

pub not_taken_ascends : (taken : List ℕ) (row : List Bool) → AllPairs (λ i j. i < j) (not_taken taken (true_positions row))
not_taken_ascends taken row = AllPairs-filter (λ i j. i < j) (λ i. not (list_any (λ t. t == i) taken)) (true_positions row) (true_positions_ascend row)

-- ---- assignments beside positions that are taken
abbrev Assigned : List ℕ → Table → List ℕ → Type 0
Assigned taken [] [] = Unit {0}
Assigned taken [] (i ∷ is) = ⊥
Assigned taken (row ∷ rows) [] = ⊥
Assigned taken (row ∷ rows) (i ∷ is) = IsTrueAt row i × IsFree taken i × Assigned (i ∷ taken) rows is

contains-assigned : (taken : List ℕ) (table : Table) (is : List ℕ) → Assigned taken table is → Contains (assignments_beside taken table) is
contains-assigned taken [] [] h = (0, (let l : 0 < 1 = omega arith in l), refl)
contains-assigned taken [] (i ∷ is) h = absurd h
contains-assigned taken (row ∷ rows) [] h = absurd h
contains-assigned taken (row ∷ rows) (i ∷ is) h =
    contains-flat_map (λ i. map (λ is. i ∷ is) (assignments_beside (i ∷ taken) rows)) (not_taken taken (true_positions row)) i (i ∷ is)
    (Contains-not_taken taken (true_positions row) i (Contains-true_positions row i (get_or_from_slice_get row i true false h.0)) h.1)
    (contains-map (λ is. i ∷ is) (assignments_beside (i ∷ taken) rows) is (contains-assigned (i ∷ taken) rows is h.2))

assigned-contained : (taken : List ℕ) (table : Table) (is : List ℕ) → Contains (assignments_beside taken table) is → Assigned taken table is
assigned-contained taken [] is c =
    elim (contains-cons_cases [] is [] c) [
      | inl e ↦ subst (Assigned taken []) e tt
      | inr out ↦ absurd (let l : out.0 < 0 = out.1 in omega arith)
    ]
assigned-contained taken (row ∷ rows) is c =
    let w = contains-from_flat_map (λ i. map (λ is. i ∷ is) (assignments_beside (i ∷ taken) rows)) (not_taken taken (true_positions row)) is c in
    let v = contains-from_map (λ is. w.0 ∷ is) (assignments_beside (w.0 ∷ taken) rows) is w.2 in
    let free = Contains-from_not_taken taken (true_positions row) w.0 w.1 in
    subst (Assigned taken (row ∷ rows)) v.2 (IsTrueAt-from_get_or row w.0 (Contains-from_true_positions row w.0 free.0), free.1, assigned-contained (w.0 ∷ taken) rows v.0 v.1)

assigned-from : (taken : List ℕ) (table : Table) (is : List ℕ) → AllZip IsTrueAt table is → AllPairs (λ i j. i ≢ j) is → All (IsFree taken) is → Assigned taken table is
assigned-from taken [] [] accepted distinct free = tt
assigned-from taken [] (i ∷ is) accepted distinct free = absurd accepted
assigned-from taken (row ∷ rows) [] accepted distinct free = absurd accepted
assigned-from taken (row ∷ rows) (i ∷ is) accepted distinct free =
    let first : IsFree taken i = free 0 0 (let l : 0 < suc (length is) = omega arith in l) in (
      accepted.0,
      first,
      assigned-from (i ∷ taken) rows is accepted.1
          (λ m n d below within. distinct (suc m) (suc n) d (omega arith) (omega arith))
          (λ k d within. free_cons i (get_or is k d) taken (distinct 0 (suc k) d (omega arith) (omega arith)) (free (suc k) d (omega arith))),
    )

-- what an assignment beside positions that are taken is
record IsBeside (taken : List ℕ) (table : Table) (is : List ℕ) : Type 0 where
  pub accepted : AllZip IsTrueAt table is
  pub distinct : AllPairs (λ i j. i ≢ j) is
  pub free : All (IsFree taken) is

assigned-is : (taken : List ℕ) (table : Table) (is : List ℕ) → Assigned taken table is → IsBeside taken table is
assigned-is taken [] [] h = record { accepted = tt; distinct = λ i j d a b. absurd (omega arith); free = λ k d l. absurd (omega arith) }
assigned-is taken [] (i ∷ is) h = absurd h
assigned-is taken (row ∷ rows) [] h = absurd h
assigned-is taken (row ∷ rows) (i ∷ is) h =
    let others = assigned-is (i ∷ taken) rows is h.2 in
    record {
      accepted = (h.0, others.accepted);
      distinct = AllPairs-cons (λ i j. i ≢ j) i is (All-weaker (IsFree (i ∷ taken)) (λ j. i ≢ j) (λ j f. (free_from_cons i j taken f).0) is others.free) others.distinct;
      free = All-cons (IsFree taken) i is h.1 (All-weaker (IsFree (i ∷ taken)) (IsFree taken) (λ j f. (free_from_cons i j taken f).1) is others.free);
    }

pub contains_assignment : (table : Table) (is : List ℕ) → IsAssignment table is → Contains (assignments table) is
contains_assignment table is a = contains-assigned [] table is (assigned-from [] table is a.accepted a.distinct (λ k d l. refl))

pub assignment_contained : (table : Table) (is : List ℕ) → Contains (assignments table) is → IsAssignment table is
assignment_contained table is c =
    let a = assigned-is [] table is (assigned-contained [] table is c) in
    record { accepted = a.accepted; distinct = a.distinct }

-- ---- their order
pairs-tail : {X : Type 0} (R : X → X → Type 0) (x : X) (xs : List X) → AllPairs R (x ∷ xs) → AllPairs R xs
pairs-tail R x xs p i j d a b = p (suc i) (suc j) d (omega arith) (omega arith)

pairs-head : {X : Type 0} (R : X → X → Type 0) (x : X) (xs : List X) → AllPairs R (x ∷ xs) → All (R x) xs
pairs-head R x xs p k d h = p 0 (suc k) d (omega arith) (omega arith)

pairs-append : {X : Type 0} (R : X → X → Type 0) (xs ys : List X) → AllPairs R xs → AllPairs R ys → ((x y : X) → Contains xs x → Contains ys y → R x y) → AllPairs R (xs ++ ys)
pairs-append R [] ys p q cross = q
pairs-append R (x ∷ xs) ys p q cross =
    AllPairs-cons R x (xs ++ ys)
    (All-append (R x) xs ys (pairs-head R x xs p) (λ k d h. cross x (get_or ys k d) (0, (let l : 0 < suc (length xs) = omega arith in l), refl) (Contains-get_or ys k d h)))
    (pairs-append R xs ys (pairs-tail R x xs p) q (λ z y c h. cross z y (contains-cons x z xs c) h))

pairs-map : {X Y : Type 0} (R : X → X → Type 0) (S : Y → Y → Type 0) (f : X → Y) → ((a b : X) → R a b → S (f a) (f b)) → (xs : List X) → AllPairs R xs → AllPairs S (map f xs)
pairs-map R S f step [] p = λ i j d a b. absurd (omega arith)
pairs-map R S f step (x ∷ xs) p =
    AllPairs-cons S (f x) (map f xs) (All-map (S (f x)) f xs (All-weaker (R x) (λ y. S (f x) (f y)) (λ y r. step x y r) xs (pairs-head R x xs p)))
    (pairs-map R S f step xs (pairs-tail R x xs p))

pairs-flat_map : {X Y : Type 0} (R : X → X → Type 0) (S : Y → Y → Type 0) (f : X → List Y) → ((x : X) → AllPairs S (f x)) → ((x x' : X) (y y' : Y) → R x x' → Contains (f x) y → Contains (f x') y' → S y y')
    → (xs : List X) → AllPairs R xs → AllPairs S (flat_map f xs)
pairs-flat_map R S f each across [] p = λ i j d a b. absurd (omega arith)
pairs-flat_map R S f each across (x ∷ xs) p =
    pairs-append S (f x) (flat_map f xs) (each x) (pairs-flat_map R S f each across xs (pairs-tail R x xs p))
    (λ y y' c h. let w = contains-from_flat_map f xs y' h in across x w.0 y y' (All-contains (R x) xs w.0 (pairs-head R x xs p) w.1) c w.2)

before-cons : (i : ℕ) (is js : List ℕ) → ComesBefore is js → ComesBefore (i ∷ is) (i ∷ js)
before-cons i is js b = record { place = suc b.place; same = ap (λ (ks : List ℕ). i ∷ ks) b.same; less = b.less }

before-first : (i j : ℕ) (is js : List ℕ) → i < j → ComesBefore (i ∷ is) (j ∷ js)
before-first i j is js l = record { place = 0; same = refl; less = l }

beside_ascend : (taken : List ℕ) (table : Table) → AllPairs ComesBefore (assignments_beside taken table)
beside_ascend taken [] = λ i j d a b. absurd (omega arith)
beside_ascend taken (row ∷ rows) =
    pairs-flat_map (λ i j. i < j) ComesBefore (λ i. map (λ is. i ∷ is) (assignments_beside (i ∷ taken) rows))
    (λ i. pairs-map ComesBefore ComesBefore (λ is. i ∷ is) (λ is js b. before-cons i is js b) (assignments_beside (i ∷ taken) rows) (beside_ascend (i ∷ taken) rows))
    (λ i j is js l c h.
    let v = contains-from_map (λ is. i ∷ is) (assignments_beside (i ∷ taken) rows) is c in
    let w = contains-from_map (λ is. j ∷ is) (assignments_beside (j ∷ taken) rows) js h in
    subst (λ is. ComesBefore is js) v.2 (subst (λ js. ComesBefore (i ∷ v.0) js) w.2 (before-first i j v.0 w.0 l)))
    (not_taken taken (true_positions row)) (not_taken_ascends taken row)

pub assignments_ascend : (table : Table) → AllPairs ComesBefore (assignments table)
assignments_ascend table = beside_ascend [] table

-- ---- the first
pub none_least : (table : Table) → ((is : List ℕ) → IsAssignment table is → ⊥) → least table ≡ None
none_least table none = elim (cases_lt 0 (length (assignments table))) [
  | inl l ↦ absurd (none (get_or (assignments table) 0 []) (assignment_contained table _ (Contains-get_or (assignments table) 0 [] l)))
  | inr g ↦ slice_get_past (assignments table) 0 g
]

pub least_assigned : (table : Table) (is : List ℕ) → least table ≡ Some is → IsAssignment table is
least_assigned table is e =
    let l = slice_get_within (assignments table) 0 is e in
    assignment_contained table is (0, l, get_or_from_slice_get (assignments table) 0 is is e)

-- an assignment is the first, or comes after it
pub least_cases : (table : Table) (is : List ℕ) → IsAssignment table is → (first : List ℕ) × (least table ≡ Some first) × ((first ≡ is) ⊎ ComesBefore first is)
least_cases table is a =
    let all = assignments table in
    let c = contains_assignment table is a in
    let some : 0 < length all = let l : c.0 < length all = c.1 in omega arith in (
      get_or all 0 is,
      slice_get-get_or all 0 is some,
      elim (cases_lt 0 c.0) [
        | inl z ↦ inr (subst (λ (js : List ℕ). ComesBefore (get_or all 0 is) js) c.2 (assignments_ascend table 0 c.0 is z c.1))
        | inr z ↦ let e : 0 ≡ c.0 = omega arith in inl (ap (λ (k : ℕ). get_or all k is) e ∙ c.2)
      ],
    )
