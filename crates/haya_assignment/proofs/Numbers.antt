-- Lists of numbers that grow, are written to, and have no two that are equal.
use Rattle.std.proofs.Common.{◌≡◌, ◌≢◌, ℕ, zero, suc, ◌<◌, ◌≤◌, true, false, List, [], ◌∷◌, ◌++◌, length, get_or, set, arith, refl, sym, ◌∙◌, subst, inl, inr}
use Rattle.std.specs.Prelude.{Contains, nat_eq}
use Rattle.std.specs.List.{IsDistinct}
use Rattle.std.specs.Set.{is_member}
use Rattle.std.proofs.lemmas.Bool.{cases_lt, cases_eq}
use Rattle.std.proofs.lemmas.Bool.Decides.{nat_tests, Decides-eqb}
use Rattle.std.proofs.lemmas.Cmp.{nat_eq_equiv}
use Rattle.std.proofs.lemmas.List.{get_or_append_left, get_or_push, length_push, get_or-set_same, get_or-set_other, length-set, get_or_default}
use Rattle.std.proofs.lemmas.Map.Keys.{IsDistinct-from_apart}
use Rattle.std.proofs.lemmas.Map.Made.{is_member-Decides, length-le_from_is_member}
use Rattle.std.proofs.lemmas.Map.Steps.{length-le_from_distinct_below}
use Rattle.haya_assignment.specs.Placed.{Grows, IsApart}

pub grows_refl : (xs : List ℕ) → Grows xs xs
grows_refl xs = record { longer = omega arith; same = λ k h. refl }

pub grows_trans : (xs ys zs : List ℕ) → Grows xs ys → Grows ys zs → Grows xs zs
grows_trans xs ys zs g h = record { longer = omega arith; same = λ k l. let m : k < length ys = omega arith in g.same k l ∙ h.same k m }

pub grows_push : (xs : List ℕ) (y : ℕ) → Grows xs (xs ++ y ∷ [])
grows_push xs y = record { longer = omega (arith, length_push xs y); same = λ k h. sym (get_or_append_left xs (y ∷ []) 0 k h) }

pub contains_grows : (xs ys : List ℕ) (x : ℕ) → Grows xs ys → Contains xs x → Contains ys x
contains_grows xs ys x g h =
    let l : h.0 < length ys = omega arith in
    (h.0, l, get_or_default ys h.0 x 0 l ∙ sym (g.same h.0 h.1) ∙ get_or_default xs h.0 0 x h.1 ∙ h.2)

-- where a number is in a list, at the default 0
pub contains_at : (xs : List ℕ) (x : ℕ) → (c : Contains xs x) → get_or xs c.0 0 ≡ x
contains_at xs x c = get_or_default xs c.0 0 x c.1 ∙ c.2

-- what holds at each place of a list, and of one more at the end, holds at each place with it
pub at_more : {X : Type 0} (P : ℕ → X → Type 0) (xs : List X) (y d : X) → ((k : ℕ) → k < length xs → P k (get_or xs k d)) → P (length xs) y → (k : ℕ) → k < length (xs ++ y ∷ []) → P k (get_or (xs ++ y ∷ []) k d)
at_more P xs y d all last k h =
    elim (cases_lt k (length xs)) [
      | inl l ↦ rw (get_or_append_left xs (y ∷ []) d k l) (all k l)
      | inr g ↦
          let e : length xs ≡ k = omega (arith, length_push xs y) in
          rw (get_or_push xs y d k e) (subst (λ (n : ℕ). P n y) e last)
    ]

-- what holds at each place, and of the new one at its own, holds after a write
pub at_set : {X : Type 0} (P : ℕ → X → Type 0) (xs : List X) (i : ℕ) (v d : X) → i < length xs → ((k : ℕ) → k < length xs → k ≢ i → P k (get_or xs k d)) → P i v → (k : ℕ) → k < length (set xs i v) → P k (get_or (set xs i v) k d)
at_set P xs i v d in_xs others here k h =
    let h' : k < length xs = omega (arith, length-set xs i v) in
    elim (cases_eq k i) [
      | inl e ↦ rw (e, get_or-set_same xs i v d in_xs) here
      | inr ne ↦ rw (get_or-set_other xs i k v d ne) (others k h' ne)
    ]

pub differ : (xs : List ℕ) → IsApart xs → (i j : ℕ) → i < length xs → j < length xs → i ≢ j → get_or xs i 0 ≢ get_or xs j 0
differ xs apart i j h k ne = elim (cases_lt i j) [ inl l ↦ apart i j l k | inr g ↦ λ e. apart j i (omega arith) h (sym e) ]

-- ---- how many there are
unequal : (a b : ℕ) → a ≢ b → nat_eq a b ≡ false
unequal a b ne = grind (arith, nat_tests)

contained : (xs : List ℕ) (q : ℕ) → is_member nat_eq xs q ≡ true → Contains xs q
contained xs q h = (is_member-Decides Decides-eqb xs q).0 h

member : (xs : List ℕ) (q : ℕ) → Contains xs q → is_member nat_eq xs q ≡ true
member xs q h = (is_member-Decides Decides-eqb xs q).1 h

distinct : (xs : List ℕ) → IsApart xs → IsDistinct nat_eq xs
distinct xs apart = IsDistinct-from_apart nat_eq xs (λ i j d a b. let h : i < length xs = omega arith in rw (get_or_default xs i d 0 h, get_or_default xs j d 0 b) (unequal _ _ (apart i j a b)))

-- each of them is in a list: they are at most as many
pub at_most_those : (xs ys : List ℕ) → IsApart xs → ((k : ℕ) → k < length xs → Contains ys (get_or xs k 0)) → length xs ≤ length ys
at_most_those xs ys apart all = length-le_from_is_member nat_eq_equiv xs ys (distinct xs apart)
    (λ q h. let c = contained xs q h in
    member ys q (subst (λ (x : ℕ). Contains ys x) (contains_at xs q c) (all c.0 c.1)))

pub at_most : (xs : List ℕ) (n : ℕ) → IsApart xs → ((k : ℕ) → k < length xs → get_or xs k 0 < n) → length xs ≤ n
at_most xs n apart all = length-le_from_distinct_below xs n (distinct xs apart)
    (λ q h. let c = contained xs q h in
    subst (λ (x : ℕ). x < n) (contains_at xs q c) (all c.0 c.1))

apart_cons : (y : ℕ) (xs : List ℕ) → IsApart xs → ((k : ℕ) → k < length xs → y ≢ get_or xs k 0) → IsApart (y ∷ xs)
apart_cons y xs apart new zero zero a b = absurd (omega arith)
apart_cons y xs apart new zero (suc j) a b = new j (omega arith)
apart_cons y xs apart new (suc i) zero a b = absurd (omega arith)
apart_cons y xs apart new (suc i) (suc j) a b = apart i j (omega arith) (omega arith)

each_cons : (y : ℕ) (xs ys : List ℕ) → Contains ys y → ((k : ℕ) → k < length xs → Contains ys (get_or xs k 0)) → (k : ℕ) → k < length (y ∷ xs) → Contains ys (get_or (y ∷ xs) k 0)
each_cons y xs ys c all zero h = c
each_cons y xs ys c all (suc k) h = all k (omega arith)

-- as many as those of a list, each of which they are, are all of it
pub all_those : (xs ys : List ℕ) → IsApart xs → length xs ≡ length ys → ((k : ℕ) → k < length xs → Contains ys (get_or xs k 0)) → (y : ℕ) → Contains ys y → Contains xs y
all_those xs ys apart long all y c =
    (elim (is_member nat_eq xs y) as (λ b. is_member nat_eq xs y ≡ b → Contains xs y) [
      | true ↦ λ e. contained xs y e
      | false ↦ λ e.
          let new : (k : ℕ) → k < length xs → y ≢ get_or xs k 0 = λ k h same.
          let l : k < length xs = h in
          let yes : is_member nat_eq xs y ≡ true = member xs y (k, l, get_or_default xs k y 0 l ∙ sym same) in
          absurd (cc) in
          let most : length (y ∷ xs) ≤ length ys = at_most_those (y ∷ xs) ys (apart_cons y xs apart new) (each_cons y xs ys c all) in
          absurd (omega arith)
    ]) refl
