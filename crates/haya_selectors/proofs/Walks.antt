-- What a walk over a list has left: the first place where a test holds, and a sum up to it.
use Rattle.std.proofs.Common.{◌≡◌, map, ℕ, zero, suc, None, Option, ◌+◌, ◌<◌, ◌≤◌, Bool, true, false, cond, List, [], ◌∷◌, Some, length, get_or, take, drop, add-one, refl, sym, ap, ◌∙◌, arith}
use Rattle.std.specs.Prelude.{nat_lt, not, filter, find, option_map, position, slice_get, sum_by}
use Rattle.std.specs.List.{position_or_len, range_with_len}
use Rattle.std.proofs.lemmas.Bool.Decides.{nat_tests}
use Rattle.std.proofs.lemmas.List.{drop_all, drop_more, get_or-map, length-map}
use Rattle.std.proofs.lemmas.Option.{slice_get_read, slice_get-map}
use Rattle.std.proofs.lemmas.List.Sums.{sum_by-cons}
use Rattle.haya_entry.specs.declared.entry.Entry.{Entry}
use Rattle.haya_entry.specs.Tree.{Tree, view}
use Rattle.haya_selectors.specs.Places.{places, at_place, items_up_to}

pub items_up_to-cons : {X : Type 0} (p : X → Bool) (x : X) (xs : List X) → items_up_to p (x ∷ xs) ≡ x ∷ cond (p x) [] (items_up_to p xs)
items_up_to-cons p x xs =
    let next : 1 + position_or_len p xs + 1 ≡ suc (position_or_len p xs + 1) = omega arith in
    elim (p x) as (λ b. take (cond (not b) (1 + position_or_len p xs) 0 + 1) (x ∷ xs) ≡ x ∷ cond b [] (take (position_or_len p xs + 1) xs)) [
      | true ↦ refl
      | false ↦ ap (λ n. take n (x ∷ xs)) next
    ]

pub sum_by-items_up_to : {X : Type 0} (f : X → ℕ) (p : X → Bool) (x : X) (xs : List X) → sum_by f (items_up_to p (x ∷ xs)) ≡ f x + cond (p x) 0 (sum_by f (items_up_to p xs))
sum_by-items_up_to f p x xs =
    ap (sum_by f) (items_up_to-cons p x xs)
    ∙ (elim (p x) as (λ b. sum_by f (x ∷ cond b [] (items_up_to p xs)) ≡ f x + cond b 0 (sum_by f (items_up_to p xs))) [
      | true ↦ sum_by-cons f x []
      | false ↦ sum_by-cons f x (items_up_to p xs)
    ])

-- what stands at a place, and behind it
pub at_drop : {X : Type 0} (ys : List X) (k : ℕ) (x : X) (xs : List X) → drop k ys ≡ x ∷ xs → (slice_get ys k ≡ Some x) × (drop (k + 1) ys ≡ xs)
at_drop [] zero x xs e = absurd (cc)
at_drop [] (suc k) x xs e = absurd (cc)
at_drop (y ∷ ys) zero x xs e = (cc, cc)
at_drop (y ∷ ys) (suc k) x xs e = rw add-one (let h = at_drop ys k x xs e in (h.0, rw add-one at h.1))

-- an item that was read, and what is left from it on
pub read_map : {A B : Type 0} (f : A → B) (xs : List A) (i : ℕ) (x : A) (d : B) → i < length xs → x ≡ get_or xs i x → get_or (map f xs) i d ≡ f x
read_map f xs i x d l e = get_or-map f xs i x d l ∙ ap f (sym e)

pub next_of_map : {A B : Type 0} (f : A → B) (xs : List A) (i : ℕ) (x : A) → i < length xs → x ≡ get_or xs i x → drop i (map f xs) ≡ f x ∷ drop (i + 1) (map f xs)
next_of_map f xs i x l e =
    drop_more (map f xs) i (f x) (omega (arith, l, length-map xs f)) ∙ ap (λ y. y ∷ drop (i + 1) (map f xs)) (read_map f xs i x (f x) l e)

one_later : (m n : ℕ) → cond (nat_lt (1 + m) (suc n)) (Some (1 + m)) None ≡ option_map (λ j. 1 + j) (cond (nat_lt m n) (Some m) None)
one_later m n =
    let e : nat_lt (1 + m) (suc n) ≡ nat_lt m n = grind (arith, nat_tests) in
    rw e (elim (nat_lt m n) as (λ b. cond b (Some (1 + m)) None ≡ option_map (λ j. 1 + j) (cond b (Some m) None)) [ true ↦ refl | false ↦ refl ])

pub position-cons : {X : Type 0} (p : X → Bool) (x : X) (xs : List X) → position p (x ∷ xs) ≡ cond (p x) (Some 0) (option_map (λ j. 1 + j) (position p xs))
position-cons p x xs =
    let at = λ (b : Bool). cond (not b) (1 + position_or_len p xs) 0 in
    elim (p x) as (λ b. cond (nat_lt (at b) (suc (length xs))) (Some (at b)) None ≡ cond b (Some 0) (option_map (λ j. 1 + j) (position p xs))) [
      | true ↦ grind (arith, nat_tests)
      | false ↦ one_later (position_or_len p xs) (length xs)
    ]

found_later : (b : Bool) (k : ℕ) (o : Option ℕ) → cond b (Some k) (option_map (λ j. k + 1 + j) o) ≡ option_map (λ j. k + j) (cond b (Some 0) (option_map (λ j. 1 + j) o))
found_later true k o = let e : k ≡ k + 0 = omega arith in ap Some e
found_later false k None = refl
found_later false k (Some j) = let e : k + 1 + j ≡ k + (1 + j) = omega arith in ap Some e

found_from : {X : Type 0} (test : X → Bool) (ys : List X) (k : ℕ) (xs : List X) → drop k ys ≡ xs
    → find (at_place false test ys) (range_with_len k (length xs)) ≡ option_map (λ j. k + j) (position test xs)
found_from test ys k [] e = refl
found_from test ys k (x ∷ xs) e =
    let h = at_drop ys k x xs e in
    rw (h.0, found_from test ys (k + 1) xs h.1, position-cons) (found_later (test x) k (position test xs))

pub filter_of_all : (is : List ℕ) → filter (λ i. true) is ≡ is
filter_of_all [] = refl
filter_of_all (i ∷ is) = ap (λ js. i ∷ js) (filter_of_all is)

from_zero : (o : Option ℕ) → option_map (λ j. 0 + j) o ≡ o
from_zero None = refl
from_zero (Some j) = let e : 0 + j ≡ j = omega arith in ap Some e

-- the first of all places where a test holds
pub first_of_all : {X : Type 0} (test : X → Bool) (xs : List X) → find (at_place false test xs) (places xs) ≡ position test xs
first_of_all test xs = found_from test xs 0 xs refl ∙ from_zero (position test xs)

-- what a walk over the entries has left to find, and to sum up, from place i on
module _ (test : Tree → Bool) (f : Tree → ℕ) (ps : List Entry) where
  abbrev pub to_find : ℕ → Option ℕ
  to_find i = option_map (λ j. i + j) (position test (drop i (map view ps)))

  abbrev pub to_sum : ℕ → ℕ
  to_sum i = sum_by f (items_up_to test (drop i (map view ps)))

  pub to_find_all : to_find 0 ≡ position test (map view ps)
  to_find_all = from_zero (position test (map view ps))

  module _ (i : ℕ) where
    pub walked : length ps ≤ i → (to_find i ≡ None) × (to_sum i ≡ 0)
    walked h = rw (drop_all i (map view ps) (omega (arith, h, length-map ps view))) (refl, refl)

    module _ (x : Entry) (h : i < length ps) (r : x ≡ get_or ps i x) where
      pub place_is : slice_get (map view ps) i ≡ Some (view x)
      place_is = slice_get-map view ps i ∙ ap (option_map view) (slice_get_read ps (length ps) i x refl h r)

      met : (to_find i ≡ cond (test (view x)) (Some i) (to_find (i + 1))) × (to_sum i ≡ f (view x) + cond (test (view x)) 0 (to_sum (i + 1)))
      met =
          let rest = drop (i + 1) (map view ps) in
          let left = next_of_map view ps i x h r in (
            ap (λ (xs : List Tree). option_map (λ j. i + j) (position test xs)) left ∙ ap (option_map (λ j. i + j)) (position-cons test (view x) rest)
                ∙ sym (found_later (test (view x)) i (position test rest)),
            ap (λ (xs : List Tree). sum_by f (items_up_to test xs)) left ∙ sum_by-items_up_to f test (view x) rest,
          )

      pub met_any : f (view x) ≤ to_sum i
      met_any = omega (arith, met.1)

      pub met_yes : test (view x) ≡ true → (to_find i ≡ Some i) × (to_sum i ≡ f (view x))
      met_yes t = let m = rw t at met in (m.0, omega (arith, m.1))

      pub met_no : test (view x) ≡ false → (to_find i ≡ to_find (i + 1)) × (to_sum i ≡ f (view x) + to_sum (i + 1))
      met_no t = rw t at met
