-- Where a number may begin.
use Rattle.std.specs.Prelude.{ℕ, ◌==◌, ◌||◌, ◌&&◌, nat_le, List, [], ◌∷◌, Bool, false}

-- a number may begin here
abbrev pub begins_number : List ℕ → Bool
begins_number [] = false
begins_number (c ∷ cs) = (c == 45) || (nat_le 48 c && nat_le c 57)
