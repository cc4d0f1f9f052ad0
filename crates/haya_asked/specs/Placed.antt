-- Places, and how often they come.
use Rattle.std.specs.Prelude.{ℕ, ◌==◌, Bool, false, List, Option, nat_lt, slice_index}
use Rattle.std.specs.Option.{option_map_or}

-- whether a place is this one
abbrev pub is_at : ℕ → Option ℕ → Bool
is_at i place = option_map_or (λ p. p == i) place false

-- whether a place counts more than one
abbrev pub is_counted : List ℕ → Option ℕ → Bool
is_counted counts place = option_map_or (λ p. nat_lt 1 (slice_index counts p)) place false
