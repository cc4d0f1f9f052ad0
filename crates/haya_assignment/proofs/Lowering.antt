-- One member after the other gets the least position.
use Rattle.std.proofs.Common.{◌≡◌, ℕ, ◌+◌, ◌*◌, ◌<◌, ◌≤◌, Bool, true, false, cond, List, [], ◌∷◌, ◌++◌, length, get_or, arith, sym, ap, ◌∙◌, subst, below_more, vec_len, Vec, inl, inr}
use Rattle.std.specs.Prelude.{◌⊎◌, All, filter}
use Rattle.std.specs.List.{range_with_len}
use Rattle.std.proofs.Math.Nat.{mul-le-mul_left, mul_comm}
use Rattle.std.proofs.lemmas.Bool.{cases_lt}
use Rattle.std.proofs.lemmas.List.{length-map, map-id, append-nil}
use Rattle.std.proofs.lemmas.List.FromFn.{filter_of_map_range_with_len_more}
use Rattle.haya_assignment.specs.Assignment.{rows}
use Rattle.haya_assignment.specs.Placed.{accepts, IsLeastBelow, IsPlaced, SameBelow}
use Rattle.haya_assignment.proofs.Numbers.{at_most}
use Rattle.haya_assignment.proofs.Reaching.{accepts_within}

-- ---- the places of the flags that are set
range_more : (p : ℕ → Bool) (n : ℕ) → filter p (range_with_len 0 (n + 1)) ≡ filter p (range_with_len 0 n) ++ cond (p n) (n ∷ []) []
range_more p n =
    ap (filter p) (sym (map-id (range_with_len 0 (n + 1))))
    ∙ filter_of_map_range_with_len_more p (λ i. i) 0 n n (omega arith)
    ∙ ap (λ (xs : List ℕ). filter p xs ++ cond (p n) (n ∷ []) []) (map-id (range_with_len 0 n))

pub set_more : (p : ℕ → Bool) (n : ℕ) (xs : List ℕ) → xs ≡ filter p (range_with_len 0 n) → p n ≡ true → xs ++ n ∷ [] ≡ filter p (range_with_len 0 (n + 1))
set_more p n xs is passes = sym (range_more p n ∙ ap (λ (b : Bool). filter p (range_with_len 0 n) ++ cond b (n ∷ []) []) passes ∙ ap (λ (xs : List ℕ). xs ++ n ∷ []) (sym is))

pub set_skip : (p : ℕ → Bool) (n : ℕ) (xs : List ℕ) → xs ≡ filter p (range_with_len 0 n) → p n ≡ false → xs ≡ filter p (range_with_len 0 (n + 1))
set_skip p n xs is fails = is ∙ sym (range_more p n ∙ ap (λ (b : Bool). filter p (range_with_len 0 n) ++ cond b (n ∷ []) []) fails ∙ append-nil (filter p (range_with_len 0 n)))

pub least_more : (A : ℕ → ℕ → Bool) (n : ℕ) (best lower : List ℕ) → length lower ≡ length best → IsLeastBelow A n best → SameBelow n best lower
    → ((others : List ℕ) → IsPlaced A others → length best ≤ length others → SameBelow n best others → get_or lower n 0 ≤ get_or others n 0) → IsLeastBelow A (n + 1) lower
least_more A n best lower long was kept least others placed longer =
    let longer' : length best ≤ length others = omega arith in
    below_more (λ k. SameBelow k lower others → get_or lower k 0 ≤ get_or others k 0) n
    (λ k h same. subst (λ (x : ℕ). x ≤ get_or others k 0) (kept k h) (was others placed longer' k h (λ l z. kept l (omega arith) ∙ same l z)))
    (λ same. least others placed longer' (λ l z. kept l z ∙ same l z))

-- ---- looks
-- members that are placed are at most as many as the positions
pub placed_few : {Z : Type 0} (table : List (Vec Bool Z)) (p : ℕ) (is : List ℕ) → All (λ row. vec_len row ≡ p) table → IsPlaced (accepts (rows table)) is → length is ≤ p
placed_few table p is width placed = at_most is p placed.apart (λ k h. accepts_within table p k _ width (placed.accepted k h))

-- where there is an assignment, its first member is among those that took a position in turn
pub some_begin : {Z : Type 0} (table : List (Vec Bool Z)) (taken positions last : List ℕ) → length positions ≡ length (rows table) → IsPlaced (accepts (rows table)) positions → length last ≤ length taken
    → (length last ≡ 0 → 0 < length table → (j : ℕ) → accepts (rows table) 0 j ≡ false) → (length table ≡ 0) ⊎ (0 < length taken)
some_begin table taken positions last long placed more first =
    let many : length (rows table) ≡ length table = length-map table (λ row. row.items) in
    elim (cases_lt 0 (length taken)) [
      | inl z ↦ inr z
      | inr z ↦ elim (cases_lt 0 (length table)) [
        | inr e ↦ inl (omega arith)
        | inl some ↦
            let ok : accepts (rows table) 0 (get_or positions 0 0) ≡ true = placed.accepted 0 (omega arith) in
            let refused : accepts (rows table) 0 (get_or positions 0 0) ≡ false = first (omega arith) some (get_or positions 0 0) in
            absurd (cc)
      ]
    ]

-- where each takes a position in turn, from either end, those that are left are given one, and the assignment is made the least
pub looks_of_all : (m p f s₀ s₁ s₂ s₃ s₄ : ℕ) → m ≤ p → (m ≡ 0) ⊎ (0 < f) → s₁ ≤ s₀ + m * p → s₂ ≤ s₁ + m * p → s₃ + f * (m * p) ≤ s₂ + m * (m * p) → s₄ ≤ s₃ + m * (m * p) → s₄ ≤ s₀ + (m * p + 1) * (m + p + 1)
looks_of_all m p f s₀ s₁ s₂ s₃ s₄ fits some g h k n =
    let l : m * p * m ≤ m * p * p = mul-le-mul_left (m * p) fits in
    let e : m * (m * p) ≡ m * p * m = mul_comm m (m * p) in
    all (m * p) (m * (m * p)) (f * (m * p)) e (rw e l) less g h k n
  where
    less : m * p ≤ f * (m * p)
    less = elim some [
      | inl z ↦ rw z (omega arith)
      | inr z ↦ let l : m * p * 1 ≤ m * p * f = mul-le-mul_left (m * p) z in rw (mul_comm f (m * p)) (omega arith)
    ]

    all : (x y z : ℕ) → y ≡ x * m → y ≤ x * p → x ≤ z → s₁ ≤ s₀ + x → s₂ ≤ s₁ + x → s₃ + z ≤ s₂ + y → s₄ ≤ s₃ + y → s₄ ≤ s₀ + (x + 1) * (m + p + 1)
    all x y z e l o g h k n = omega arith
