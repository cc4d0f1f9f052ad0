-- From the lanes of a vector to the characters that no text may have.
use Rattle.std.proofs.Common.{◌≡◌, ℕ, zero, suc, ◌+◌, ◌%◌, ◌^◌, ◌≤◌, Bool, true, false, not, ◌&&◌, ◌||◌, ◌==◌, cond, eqb, List, [], ◌∷◌, map, length, take, drop, get_or, Fits, w8, refl, sym, ap, ap₂, ◌∙◌, arith}
use Rattle.std.proofs.lemmas.Bool.{agree_below, agree_below_at}
use Rattle.std.proofs.lemmas.Simd.{length-chunk, chunk-fits, mask_l-mod, first_set_mask_l}
use Rattle.std.proofs.lemmas.List.{length-map}
use Rattle.std.proofs.lemmas.List.Sums.{prefix_len-le-length}
use Rattle.std.specs.List.{prefix_len}
use Rattle.std.specs.Prelude.{nat_lt}
use lib.Lanes.{zip2, mask_l, top, Each1}
use lib.Count.{count_trailing_zeros}
use Rattle.haya_yaml_text.specs.Signs.{begins_with}
use Rattle.haya_yaml.specs.Documents.{is_c1, is_control, is_printable, is_two, may_begin_control}

zip2-map : (h : ℕ → ℕ → ℕ) (f g : ℕ → ℕ) (xs : List ℕ) → zip2 h (map f xs) (map g xs) ≡ map (λ x. h (f x) (g x)) xs
zip2-map h f g [] = refl
zip2-map h f g (x ∷ xs) = ap (λ r. h (f x) (g x) ∷ r) (zip2-map h f g xs)

-- two vectors that are computed lane by lane from v, joined
pub joined : (h : ℕ → ℕ → ℕ) (f g : ℕ → ℕ) (v : List ℕ) {a b : List ℕ} → a ≡ map f v → b ≡ map g v → zip2 h a b ≡ map (λ x. h (f x) (g x)) v
joined h f g v p q = ap₂ (zip2 h) p q ∙ zip2-map h f g v

each : (f : ℕ → ℕ) (p : ℕ → Bool) → agree_below (λ x. top 7 (f x)) p 256 ≡ true → (v : List ℕ) → Each1 (Fits w8) v → map (top 7) (map f v) ≡ map p v
each f p all [] fits = refl
each f p all (x ∷ xs) fits = ap₂ (λ a b. a ∷ b) (agree_below_at (λ y. top 7 (f y)) p 256 x all fits.0.fits) (each f p all xs fits.1)

-- the mask of such a vector is that of the bytes that pass a test
pub masked : (p : ℕ → Bool) (d : List ℕ) (n : ℕ) (z : List ℕ) → n ≤ length d → n ≤ 64 → ((k : ℕ) → Fits w8 (get_or d k 0))
    → (f : ℕ → ℕ) → z ≡ map f (take n d) → agree_below (λ x. top 7 (f x)) p 256 ≡ true → mask_l (map (top 7) z) % 2 ^ 64 ≡ mask_l (map p (take n d))
masked p d n z room few fits f lanes all =
    let v = take n d in
    let long : length v ≡ n = length-chunk 0 n d (omega (arith, room)) in
    ap (λ l. mask_l l % 2 ^ 64) (ap (map (top 7)) lanes ∙ each f p all v (chunk-fits w8 0 n d fits)) ∙ mask_l-mod (map p v) 64 (omega (arith, length-map v p, long))

quiet : (low tab feed more del latin mark c1 two : Bool) → ((low && not feed) || del || latin || mark) ≡ false
    → ((low && not (tab || (feed || more))) || del || (latin && c1) || (mark && two)) ≡ false
quiet false tab feed more false false false c1 two e = refl
quiet true true true more false false false c1 two e = refl
quiet true false true more false false false c1 two e = refl
quiet true tab false more del latin mark c1 two e = absurd (grind (arith, e))
quiet low tab feed more del latin true c1 two e = absurd (grind (arith, e))
quiet low tab feed more del true false c1 two e = absurd (grind (arith, e))
quiet low tab feed more true false false c1 two e = absurd (grind (arith, e))

no_control : (c : ℕ) (cs : List ℕ) → may_begin_control c ≡ false → is_control c cs ≡ false
no_control c cs e =
    quiet (nat_lt c 32) (c == 9) (c == 10) ((c == 13) && begins_with 10 cs) (c == 127) (c == 194) (c == 239) (is_c1 cs) (is_two 187 191 cs || is_two 191 190 cs || is_two 191 191 cs) e

step : (c : ℕ) (cs : List ℕ) (k : ℕ) (b : Bool) → may_begin_control c ≡ b → is_printable (drop k cs) ≡ is_printable cs
    → is_printable (drop (cond (not b) (1 + k) 0) (c ∷ cs)) ≡ is_printable (c ∷ cs)
unfolding is_printable
step c cs k true e same = refl
step c cs k false e same =
    let one : 1 + k ≡ suc k = omega arith in
    ap (λ n. is_printable (drop n (c ∷ cs))) one ∙ same ∙ sym (ap (λ b. not b && is_printable cs) (no_control c cs e))

abbrev harmless : ℕ → Bool
harmless c = not (may_begin_control c)

passed : (n : ℕ) (d : List ℕ) → is_printable (drop (prefix_len harmless (take n d)) d) ≡ is_printable d
passed zero d = refl
passed (suc n) [] = refl
passed (suc n) (c ∷ cs) = step c cs (prefix_len harmless (take n cs)) (may_begin_control c) refl (passed n cs)

-- the bytes before the first that may begin such a character begin none
pub before_mark : (d : List ℕ) (m r : ℕ) → 32 ≤ length d → m ≡ mask_l (map may_begin_control (take 32 d)) → r ≡ cond (eqb m 0) 32 (count_trailing_zeros 64 m)
    → (r ≤ 32) × (is_printable (drop r d) ≡ is_printable d)
before_mark d m r room marks first =
    let v = take 32 d in
    let long : length v ≡ 32 = length-chunk 0 32 d room in
    let counted : r ≡ prefix_len harmless v = first ∙ ap (λ k. cond (eqb k 0) 32 (count_trailing_zeros 64 k)) marks ∙ first_set_mask_l may_begin_control v 32 long (omega arith) in
    (omega (arith, counted, long, prefix_len-le-length harmless v), ap (λ k. is_printable (drop k d)) counted ∙ passed 32 d)
