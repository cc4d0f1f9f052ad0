-- The parts of a text, by their number.
use Rattle.std.proofs.Common.{◌≡◌, ◌<◌, ◌≤◌, List, [], ◌∷◌, length, map, get_or, refl, arith}

pub none : {X Y : Type 0} (f : X → Y) (xs : List X) → length xs < 1 → map f xs ≡ []
none f [] low = refl
none f (x ∷ xs) low = absurd (omega arith)

module _ {X Y : Type 0} (f : X → Y) (d : X) where
  pub one : (xs : List X) → 1 ≤ length xs → length xs < 2 → map f xs ≡ f (get_or xs 0 d) ∷ []
  one [] low high = absurd (omega arith)
  one (x ∷ []) low high = refl
  one (x ∷ y ∷ xs) low high = absurd (omega arith)

  pub two : (xs : List X) → 2 ≤ length xs → length xs < 3 → map f xs ≡ f (get_or xs 0 d) ∷ f (get_or xs 1 d) ∷ []
  two [] low high = absurd (omega arith)
  two (x ∷ []) low high = absurd (omega arith)
  two (x ∷ y ∷ []) low high = refl
  two (x ∷ y ∷ z ∷ xs) low high = absurd (omega arith)

  pub three : (xs : List X) → 3 ≤ length xs → length xs < 4 → map f xs ≡ f (get_or xs 0 d) ∷ f (get_or xs 1 d) ∷ f (get_or xs 2 d) ∷ []
  three [] low high = absurd (omega arith)
  three (x ∷ []) low high = absurd (omega arith)
  three (x ∷ y ∷ []) low high = absurd (omega arith)
  three (x ∷ y ∷ z ∷ []) low high = refl
  three (x ∷ y ∷ z ∷ w ∷ xs) low high = absurd (omega arith)

-- more than three
pub many : {X Y : Type 0} (f : X → Y) (xs : List X) → 4 ≤ length xs → (a : Y) × (b : Y) × (c : Y) × (d : Y) × (rest : List Y) × (map f xs ≡ a ∷ b ∷ c ∷ d ∷ rest)
many f [] low = absurd (omega arith)
many f (x ∷ []) low = absurd (omega arith)
many f (x ∷ y ∷ []) low = absurd (omega arith)
many f (x ∷ y ∷ z ∷ []) low = absurd (omega arith)
many f (x ∷ y ∷ z ∷ w ∷ xs) low = (f x, f y, f z, f w, map f xs, refl)
