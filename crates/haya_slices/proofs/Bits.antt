-- Signs of bytes, a bit for each.
use Rattle.std.proofs.Common.{◌≡◌, ◌≢◌, ℕ, zero, suc, ◌+◌, ◌-◌, ◌*◌, ◌/◌, ◌^◌, ◌<◌, ◌≤◌, ◌==◌, ◌||◌, ◌⊎◌, Bool, true, false, not, cond, List, [], ◌∷◌, inl, inr, map, length, take, drop, get_or, refl, sym, ap, ◌∙◌, subst, arith}
use Rattle.std.proofs.Math.Nat.{div-div-eq-div-mul, div-one, mul_comm, pow-suc, zero-div}
use Rattle.std.proofs.Math.Pow.{pow_mono}
use Rattle.std.proofs.lemmas.Bool.{eqb-true, false_from_ne_true, or_cases, true≢false}
use Rattle.std.proofs.lemmas.List.{drop-drop, drop-map, drop-take, length-drop, length-map}
use Rattle.std.proofs.lemmas.Simd.{length-chunk, mask_l-lt, none_from_empty_mask, run_in_chunk_fails, run_in_chunk_le, run_in_chunk_stops, trailing_mask_l}
use Rattle.std.specs.List.{prefix_len}
use lib.Lanes.{chunk, mask_l}
use lib.Count.{count_trailing_zeros}
use Rattle.haya_slices.specs.Sought.{AreSigns, IsNextSign, is_bracket, is_sign, is_sought}
use Rattle.haya_slices.specs.declared.signs.Signs.{Signs}
use Rattle.haya_slices.specs.declared.signs.Sought.{Sought}
use Rattle.haya_slices.specs.declared.signs.Sought.TheVariants.{Turn, Mark}

-- ---- bits

half : (b : Bool) (n : ℕ) → (cond b 1 0 + 2 * n) / 2 ≡ n
half true n = omega arith
half false n = omega arith

-- bits without the first
pub later_bits : (ms : List Bool) (k : ℕ) → mask_l ms / 2 ^ k ≡ mask_l (drop k ms)
later_bits [] zero = div-one 0
later_bits [] (suc k) = zero-div (2 ^ suc k)
later_bits (m ∷ ms) zero = div-one (mask_l (m ∷ ms))
later_bits (m ∷ ms) (suc k) =
    ap (λ n. mask_l (m ∷ ms) / n) (pow-suc 2 k ∙ mul_comm (2 ^ k) 2) ∙ sym (div-div-eq-div-mul (mask_l (m ∷ ms)) 2 (2 ^ k))
    ∙ ap (λ n. n / 2 ^ k) (half m (mask_l ms)) ∙ later_bits ms k

-- the bits of a chunk without the first
pub later_signs : (bytes : List ℕ) (i n k : ℕ) → k ≤ n
    → mask_l (map is_sign (chunk i n bytes)) / 2 ^ k ≡ mask_l (map is_sign (chunk (i + k) (n - k) bytes))
later_signs bytes i n k le =
    later_bits (map is_sign (chunk i n bytes)) k
    ∙ ap mask_l (drop-map is_sign k (chunk i n bytes)
    ∙ ap (map is_sign) (ap (λ m. drop k (take m (drop i bytes))) (omega arith) ∙ drop-take k (n - k) (drop i bytes)
    ∙ ap (take (n - k)) (drop-drop k i bytes)))

-- where no byte passes, no bit is set
no_bits : (p : ℕ → Bool) (xs : List ℕ) → prefix_len (λ x. not (p x)) xs ≡ length xs → mask_l (map p xs) ≡ 0
no_bits p [] e = refl
no_bits p (x ∷ xs) e = by (p x) refl (no_bits p xs)
  where
    by : (b : Bool) → p x ≡ b → (prefix_len (λ y. not (p y)) xs ≡ length xs → mask_l (map p xs) ≡ 0) → mask_l (map p (x ∷ xs)) ≡ 0
    by true is rest =
        let n : cond (not (p x)) (1 + prefix_len (λ y. not (p y)) xs) 0 ≡ 0 = ap (λ b. cond (not b) (1 + prefix_len (λ y. not (p y)) xs) 0) is in
        absurd (omega (arith, n, e))
    by false is rest =
        let n : cond (not (p x)) (1 + prefix_len (λ y. not (p y)) xs) 0 ≡ 1 + prefix_len (λ y. not (p y)) xs = ap (λ b. cond (not b) (1 + prefix_len (λ y. not (p y)) xs) 0) is in
        let more : mask_l (map p xs) ≡ 0 = rest (omega (arith, n, e)) in
        let first : cond {A = ℕ} (p x) 1 0 ≡ 0 = ap (λ b. cond {A = ℕ} b 1 0) is in
        omega (arith, more, first)

-- ---- the next sign

module _ (bytes : List ℕ) (signs : Signs) (are : AreSigns bytes signs) where
  abbrev count : ℕ
  count = signs.end - signs.start

  room : signs.start + count ≤ length bytes
  room = omega (arith, are.order, are.within)

  -- where no bit is left, none of the bytes is one
  pub none_left : signs.bits ≡ 0 → (k : ℕ) → signs.start ≤ k → k < signs.end → is_sign (get_or bytes k 0) ≡ false
  none_left empty k from to =
      none_from_empty_mask is_sign bytes signs.start count 0 room (sym are.bits ∙ empty) k from (omega (arith, are.order))

  abbrev ahead : ℕ
  ahead = count_trailing_zeros 64 signs.bits

  -- the first bit tells where the first is
  module _ (some : signs.bits ≢ 0) where
    counted : ahead ≡ prefix_len (λ x. not (is_sign x)) (chunk signs.start count bytes)
    counted =
        let v = chunk signs.start count bytes in
        let long : length v ≡ count = length-chunk signs.start count bytes room in
        ap (count_trailing_zeros 64) are.bits
        ∙ trailing_mask_l is_sign 64 v (omega (arith, long, are.few)) (omega (arith, some, are.bits))

    pub ahead_within : ahead < count
    ahead_within =
        let v = chunk signs.start count bytes in
        let most : ahead ≤ count = run_in_chunk_le is_sign bytes signs.start count ahead 0 room counted in
        let short : ahead ≢ count =
        λ all. some (are.bits ∙ no_bits is_sign v (sym counted ∙ all ∙ sym (length-chunk signs.start count bytes room))) in
        omega (arith, most, short)

    pub next_sign : IsNextSign bytes signs.start (signs.start + (ahead + 1))
    next_sign = record {
      order = omega arith;
      within = omega (arith, ahead_within, are.order, are.within);
      before = λ k from to. run_in_chunk_fails is_sign bytes signs.start count ahead 0 room counted k from (omega arith);
      there = subst (λ n. is_sign (get_or bytes n 0) ≡ true) (omega arith)
          (run_in_chunk_stops is_sign bytes signs.start count ahead 0 room counted ahead_within);
    }

-- the signs without the first bytes
pub later : (bytes : List ℕ) (signs : Signs) (k : ℕ) → AreSigns bytes signs → k ≤ signs.end - signs.start
    → AreSigns bytes (record { start = signs.start + k; end = signs.end; bits = signs.bits / 2 ^ k })
later bytes signs k are le = record {
  order = omega (arith, are.order);
  within = are.within;
  few = omega (arith, are.few);
  bits = ap (λ n. n / 2 ^ k) are.bits ∙ later_signs bytes signs.start (signs.end - signs.start) k le
      ∙ ap (λ n. mask_l (map is_sign (chunk (signs.start + k) n bytes))) (omega arith);
}

-- the signs behind the next
pub behind_sign : (bytes : List ℕ) (signs : Signs) → AreSigns bytes signs → signs.bits ≢ 0
    → AreSigns bytes (record {
      start = signs.start + (count_trailing_zeros 64 signs.bits + 1);
      end = signs.end;
      bits = signs.bits / 2 ^ count_trailing_zeros 64 signs.bits / 2;
    })
behind_sign bytes signs are some =
    let r = count_trailing_zeros 64 signs.bits in
    let once : signs.bits / 2 ^ (r + 1) ≡ signs.bits / 2 ^ r / 2 =
    ap (λ k. signs.bits / 2 ^ k) (omega arith) ∙ ap (λ n. signs.bits / n) (pow-suc 2 r)
    ∙ sym (div-div-eq-div-mul signs.bits (2 ^ r) 2) in
    subst (λ n. AreSigns bytes (record { start = signs.start + (r + 1); end = signs.end; bits = n })) once
    (later bytes signs (r + 1) are (omega (arith, ahead_within bytes signs are some)))

-- the bits of few bytes leave room for another
pub few_bits : (bytes : List ℕ) (at : ℕ) → length bytes < 64 → 0 < at → mask_l (map is_sign (drop at bytes)) * 2 + 1 < 2 ^ 64
few_bits bytes at few some =
    let ms = map is_sign (drop at bytes) in
    let long : length ms ≤ 62 = omega (arith, length-map (drop at bytes) is_sign, length-drop at bytes) in
    let most : 2 ^ length ms ≤ 2 ^ 62 = pow_mono long in
    omega (arith, mask_l-lt ms, most)

-- ---- those that are sought

module _ (x : ℕ) where
  is : (c : ℕ) → is_sign c ≡ true → (x == c) ≡ true → is_sign x ≡ true
  is c sign e = ap is_sign (eqb-true x c e) ∙ sign

  bracket : is_bracket x ≡ true → is_sign x ≡ true
  bracket h = by (or_cases _ _ h)
    where
      opens : ((x == 123) ≡ true) ⊎ ((x == 91) ≡ true) → is_sign x ≡ true
      opens (inl e) = is 123 refl e
      opens (inr e) = is 91 refl e

      closes : ((x == 125) ≡ true) ⊎ ((x == 93) ≡ true) → is_sign x ≡ true
      closes (inl e) = is 125 refl e
      closes (inr e) = is 93 refl e

      by : (((x == 123) || (x == 91)) ≡ true) ⊎ (((x == 125) || (x == 93)) ≡ true) → is_sign x ≡ true
      by (inl e) = opens (or_cases _ _ e)
      by (inr e) = closes (or_cases _ _ e)

  sign : (s : Sought) → is_sought s x ≡ true → is_sign x ≡ true
  sign Turn h = by (or_cases (x == 34) (is_bracket x) h)
    where
      by : ((x == 34) ≡ true) ⊎ (is_bracket x ≡ true) → is_sign x ≡ true
      by (inl e) = is 34 refl e
      by (inr e) = bracket e
  sign Mark h = by (or_cases (x == 34) (x == 92) h)
    where
      by : ((x == 34) ≡ true) ⊎ ((x == 92) ≡ true) → is_sign x ≡ true
      by (inl e) = is 34 refl e
      by (inr e) = is 92 refl e

-- what is no sign isn't sought
pub no_sign : (s : Sought) (x : ℕ) → is_sign x ≡ false → is_sought s x ≡ false
no_sign s x none = false_from_ne_true (is_sought s x) (λ sought. true≢false (sym (sign x s sought) ∙ none))
