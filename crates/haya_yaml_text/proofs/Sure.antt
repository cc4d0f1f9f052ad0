-- From the lanes of vectors to the signs that go on in a plain scalar.
use Rattle.std.proofs.Common.{◌≡◌, ℕ, zero, suc, ◌+◌, ◌%◌, ◌^◌, ◌<◌, ◌≤◌, Bool, true, false, not, ◌&&◌, ◌||◌, cond, eqb, List, [], ◌∷◌, map, length, take, drop, replicate, bit_and, bit_or, refl, sym, ap, ap₂, ◌∙◌, arith}
use Rattle.std.proofs.lemmas.Simd.{length-chunk, zip2_splat, map-map, mask_l-mod, first_set_mask_l}
use Rattle.std.proofs.lemmas.List.{length-map}
use Rattle.std.proofs.lemmas.List.Sums.{prefix_len-le-length}
use Rattle.std.specs.List.{prefix_len}
use lib.Lanes.{zip2, mask_l, top}
use lib.Count.{count_trailing_zeros}
use Rattle.haya_yaml_text.specs.Lanes.{may_stop, pairs}
use Rattle.haya_yaml_text.specs.Turns.{goes_on, plain_length}
use Rattle.haya_yaml_text.specs.declared.scalar.Style.TheVariants.{Plain}
use Rattle.haya_yaml_text.proofs.Plain.{plain_more}

-- the lane of a comparison
abbrev pub mark : Bool → ℕ
mark b = cond b 255 0

or_marks : (a b : Bool) → bit_or (mark a) (mark b) ≡ mark (a || b)
or_marks true true = refl
or_marks true false = refl
or_marks false true = refl
or_marks false false = refl

and_marks : (a b : Bool) → bit_and (mark a) (mark b) ≡ mark (a && b)
and_marks true true = refl
and_marks true false = refl
and_marks false true = refl
and_marks false false = refl

top_mark : (b : Bool) → top 7 (mark b) ≡ b
top_mark true = refl
top_mark false = refl

abbrev Pair : Type 0
Pair = ℕ × ℕ

or_lanes : (s t : Pair → Bool) (ps : List Pair) → zip2 bit_or (map (λ p. mark (s p)) ps) (map (λ p. mark (t p)) ps) ≡ map (λ p. mark (s p || t p)) ps
or_lanes s t [] = refl
or_lanes s t (p ∷ ps) = ap₂ (λ a b. a ∷ b) (or_marks (s p) (t p)) (or_lanes s t ps)

and_lanes : (s t : Pair → Bool) (ps : List Pair) → zip2 bit_and (map (λ p. mark (s p)) ps) (map (λ p. mark (t p)) ps) ≡ map (λ p. mark (s p && t p)) ps
and_lanes s t [] = refl
and_lanes s t (p ∷ ps) = ap₂ (λ a b. a ∷ b) (and_marks (s p) (t p)) (and_lanes s t ps)

pub either : (s t : Pair → Bool) (ps : List Pair) {a b : List ℕ} → a ≡ map (λ p. mark (s p)) ps → b ≡ map (λ p. mark (t p)) ps → zip2 bit_or a b ≡ map (λ p. mark (s p || t p)) ps
either s t ps p q = ap₂ (zip2 bit_or) p q ∙ or_lanes s t ps

pub both : (s t : Pair → Bool) (ps : List Pair) {a b : List ℕ} → a ≡ map (λ p. mark (s p)) ps → b ≡ map (λ p. mark (t p)) ps → zip2 bit_and a b ≡ map (λ p. mark (s p && t p)) ps
both s t ps p q = ap₂ (zip2 bit_and) p q ∙ and_lanes s t ps

pub compared : (h : ℕ → ℕ → Bool) (f : Pair → ℕ) (y n : ℕ) (ps : List Pair) {v : List ℕ} → length ps ≡ n → v ≡ map f ps → zip2 (λ a b. mark (h a b)) v (replicate n y) ≡ map (λ p. mark (h (f p) y)) ps
compared h f y n ps long is =
    ap (λ l. zip2 (λ a b. mark (h a b)) l (replicate n y)) is ∙ zip2_splat (λ a b. mark (h a b)) (map f ps) n y (length-map ps f ∙ long) ∙ map-map (λ x. mark (h x y)) f ps

tops : (t : Pair → Bool) (ps : List Pair) → map (top 7) (map (λ p. mark (t p)) ps) ≡ map t ps
tops t [] = refl
tops t (p ∷ ps) = ap₂ (λ a b. a ∷ b) (top_mark (t p)) (tops t ps)

-- the mask of lanes that are computed so
pub marked : (t : Pair → Bool) (ps : List Pair) (z : List ℕ) → length ps ≤ 64 → z ≡ map (λ p. mark (t p)) ps → mask_l (map (top 7) z) % 2 ^ 64 ≡ mask_l (map t ps)
marked t ps z few is = ap (λ l. mask_l l % 2 ^ 64) (ap (map (top 7)) is ∙ tops t ps) ∙ mask_l-mod (map t ps) 64 (omega (arith, length-map ps t, few))

pub firsts : (xs ys : List ℕ) → length xs ≡ length ys → xs ≡ map (λ p. p.0) (pairs xs ys)
firsts [] ys e = refl
firsts (x ∷ xs) [] e = absurd (omega (arith, e))
firsts (x ∷ xs) (y ∷ ys) e = ap (λ r. x ∷ r) (firsts xs ys (omega (arith, e)))

pub seconds : (xs ys : List ℕ) → length xs ≡ length ys → ys ≡ map (λ p. p.1) (pairs xs ys)
seconds [] [] e = refl
seconds [] (y ∷ ys) e = absurd (omega (arith, e))
seconds (x ∷ xs) [] e = absurd (omega (arith, e))
seconds (x ∷ xs) (y ∷ ys) e = ap (λ r. y ∷ r) (seconds xs ys (omega (arith, e)))

on_pair : (c d : ℕ) (cs : List ℕ) → may_stop (c, d) ≡ false → goes_on Plain (c ∷ d ∷ cs) ≡ true
on_pair c d cs e = grind (arith, e)

step : (c d : ℕ) (cs : List ℕ) (k : ℕ) (b : Bool) → may_stop (c, d) ≡ b → plain_length Plain (d ∷ cs) ≡ k + plain_length Plain (drop k (d ∷ cs))
    → plain_length Plain (c ∷ d ∷ cs) ≡ cond (not b) (1 + k) 0 + plain_length Plain (drop (cond (not b) (1 + k) 0) (c ∷ d ∷ cs))
step c d cs k true e same = omega arith
step c d cs k false e same =
    let one : 1 + k ≡ suc k = omega arith in
    let more : plain_length Plain (c ∷ d ∷ cs) ≡ 1 + plain_length Plain (d ∷ cs) = plain_more Plain (c ∷ d ∷ cs) (on_pair c d cs e) in
    let back : plain_length Plain (drop (1 + k) (c ∷ d ∷ cs)) ≡ plain_length Plain (drop k (d ∷ cs)) = ap (λ n. plain_length Plain (drop n (c ∷ d ∷ cs))) one in
    omega (arith, more, same, back)

abbrev goes : Pair → Bool
goes p = not (may_stop p)

abbrev ahead : ℕ → List ℕ → ℕ
ahead n d = prefix_len goes (pairs (take n d) (take n (drop 1 d)))

passed : (n : ℕ) (d : List ℕ) → plain_length Plain d ≡ ahead n d + plain_length Plain (drop (ahead n d) d)
passed zero d = omega arith
passed (suc n) [] = omega arith
passed (suc n) (c ∷ []) = omega arith
passed (suc n) (c ∷ d ∷ cs) = step c d cs (ahead n (d ∷ cs)) (may_stop (c, d)) refl (passed n (d ∷ cs))

-- the signs before the first that may not go on do
pub before_mark : (d : List ℕ) (m r : ℕ) → 16 < length d → m ≡ mask_l (map may_stop (pairs (take 16 d) (take 16 (drop 1 d)))) → r ≡ cond (eqb m 0) 16 (count_trailing_zeros 64 m)
    → (r ≤ 16) × (plain_length Plain d ≡ r + plain_length Plain (drop r d))
before_mark d m r room marks first =
    let v = take 16 d in
    let w = take 16 (drop 1 d) in
    let ps = pairs v w in
    let front : length v ≡ 16 = length-chunk 0 16 d (omega (arith, room)) in
    let back : length w ≡ 16 = length-chunk 1 16 d (omega (arith, room)) in
    let long : length ps ≡ 16 = sym (length-map ps (λ p. p.0)) ∙ ap length (sym (firsts v w (front ∙ sym back))) ∙ front in
    let counted : r ≡ ahead 16 d = first ∙ ap (λ k. cond (eqb k 0) 16 (count_trailing_zeros 64 k)) marks ∙ first_set_mask_l may_stop ps 16 long (omega arith) in
    (omega (arith, counted, long, prefix_len-le-length goes ps), passed 16 d ∙ sym (ap (λ k. k + plain_length Plain (drop k d)) counted))
