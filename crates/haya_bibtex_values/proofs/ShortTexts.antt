-- A front that is longer than its text.
use Rattle.std.proofs.Common.{◌≡◌, ◌<◌, ℕ, false, List, [], ◌∷◌, arith, drop, drop-cons, length, refl}
use Rattle.haya_bibtex_values.specs.Fronts.{begins_in_any_case, begins_with}

pub none_left : (front left : List ℕ) (k : ℕ) → k < length front → length left ≡ 0 →
    begins_with (drop k front) left ≡ false
none_left front [] k h e = rw (drop-cons front k 0) refl
none_left front (x ∷ xs) k h e = absurd (omega arith)

pub none_left_in_any_case : (front left : List ℕ) (k : ℕ) → k < length front → length left ≡ 0 →
    begins_in_any_case (drop k front) left ≡ false
none_left_in_any_case front [] k h e = rw (drop-cons front k 0) refl
none_left_in_any_case front (x ∷ xs) k h e = absurd (omega arith)
