-- What is before an ASCII byte of a text, and what is behind it.
use Rattle.std.proofs.Common.{◌≡◌, ℕ, ◌+◌, ◌<◌, List, [], ◌∷◌, ◌++◌, length, drop, get_or, refl, sym, ap, ◌∙◌, subst, arith, IsUtf8, append_assoc, length-append}
use Rattle.std.proofs.lemmas.Str.{IsCharBoundary-after_ascii, IsCharBoundary-before_ascii, IsUtf8-drop, IsUtf8-take}
use Rattle.std.proofs.Math.Seq.{drop-append_seam, take-append_seam}

-- the byte at the seam
at_seam : (front xs : List ℕ) (x : ℕ) → get_or (front ++ x ∷ xs) (length front) 0 ≡ x
at_seam [] xs x = refl
at_seam (f ∷ front) xs x = at_seam front xs x

-- what is behind an ASCII byte of a text
pub behind_utf8 : (front xs : List ℕ) (x : ℕ) → x < 128 → IsUtf8 (front ++ x ∷ xs) → IsUtf8 xs
behind_utf8 front xs x small u =
    let len = length-append front (x ∷ xs) in
    let one = length-append front (x ∷ []) in
    let low : get_or (front ++ x ∷ xs) (length front) 0 < 128 = omega (arith, at_seam front xs x) in
    let boundary = IsCharBoundary-after_ascii (front ++ x ∷ xs) (length front) u (omega (arith, len)) low in
    let there : length front + 1 ≡ length (front ++ x ∷ []) = omega (arith, one) in
    let cut : drop (length front + 1) (front ++ x ∷ xs) ≡ xs = ap (λ n. drop n (front ++ x ∷ xs)) there ∙ ap (drop (length (front ++ x ∷ []))) (sym (append_assoc front (x ∷ []) xs)) ∙ drop-append_seam (front ++ x ∷ []) xs in
    subst IsUtf8 cut (IsUtf8-drop (front ++ x ∷ xs) (length front + 1) u boundary)

-- what is before an ASCII byte of a text
pub before_utf8 : (front xs : List ℕ) (x : ℕ) → x < 128 → IsUtf8 (front ++ x ∷ xs) → IsUtf8 front
before_utf8 front xs x small u =
    let low : get_or (front ++ x ∷ xs) (length front) 0 < 128 = omega (arith, at_seam front xs x) in
    let boundary = IsCharBoundary-before_ascii (front ++ x ∷ xs) (length front) (omega (arith, length-append front (x ∷ xs))) low in
    subst IsUtf8 (take-append_seam front (x ∷ xs)) (IsUtf8-take (front ++ x ∷ xs) (length front) u boundary)
