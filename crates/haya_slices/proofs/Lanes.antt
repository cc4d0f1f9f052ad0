-- From the lanes of a vector to the bytes that are looked for.
use Rattle.std.proofs.Common.{◌≡◌, ℕ, zero, suc, ◌%◌, ◌^◌, ◌≤◌, Bool, true, List, [], ◌∷◌, map, length, replicate, take, get_or, Fits, w8, refl, ap, ap₂, ◌∙◌, arith}
use Rattle.std.proofs.lemmas.Bool.{agree_below, agree_below_at}
use Rattle.std.proofs.lemmas.Simd.{length-chunk, chunk-fits, mask_l-mod}
use Rattle.std.proofs.lemmas.List.{length-map}
use lib.Lanes.{mask_l, top, Each1}

tops : (f : ℕ → ℕ) (p : ℕ → Bool) → agree_below (λ x. top 7 (f x)) p 256 ≡ true → (v : List ℕ) → Each1 (Fits w8) v
    → map (top 7) (map f v) ≡ map p v
tops f p all [] fits = refl
tops f p all (x ∷ xs) fits =
    ap₂ (λ a b. a ∷ b) (agree_below_at (λ y. top 7 (f y)) p 256 x all fits.0.fits) (tops f p all xs fits.1)

-- the mask of a vector that is computed of the first bytes is that of those that pass a test
pub masked : (p : ℕ → Bool) (n : ℕ) (bytes : List ℕ) (z : List ℕ) → n ≤ 64 → n ≤ length bytes → ((k : ℕ) → Fits w8 (get_or bytes k 0))
    → (f : ℕ → ℕ) → z ≡ map f (take n bytes) → agree_below (λ x. top 7 (f x)) p 256 ≡ true
    → mask_l (map (top 7) z) % 2 ^ 64 ≡ mask_l (map p (take n bytes))
masked p n bytes z few room fit f lanes all =
    let v = take n bytes in
    let long : length v ≡ n = length-chunk 0 n bytes (omega arith) in
    ap (λ l. mask_l l % 2 ^ 64) (ap (map (top 7)) lanes ∙ tops f p all v (chunk-fits w8 0 n bytes fit))
    ∙ mask_l-mod (map p v) 64 (omega (arith, length-map v p, long, few))

-- a vector of the same byte, lane by lane
pub same_bytes : (v : List ℕ) (n c : ℕ) → length v ≡ n → replicate n c ≡ map (λ x. c) v
same_bytes [] zero c e = refl
same_bytes [] (suc n) c e = absurd (omega arith)
same_bytes (x ∷ xs) zero c e = absurd (omega arith)
same_bytes (x ∷ xs) (suc n) c e = ap (λ l. c ∷ l) (same_bytes xs n c (omega arith))
