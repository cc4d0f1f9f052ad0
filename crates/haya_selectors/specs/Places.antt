-- Places of a list, counted from 0.
use Rattle.std.specs.Prelude.{ℕ, ◌+◌, Bool, List, length, slice_get, take}
use Rattle.std.specs.List.{position_or_len, range_with_len}
use Rattle.std.specs.Option.{option_map_or}

-- all places
abbrev pub places : {X : Type 0} → List X → List ℕ
places xs = range_with_len 0 (length xs)

-- what f answers of the item at a place; other where there is none
abbrev pub at_place : {X A : Type 0} → A → (X → A) → List X → ℕ → A
at_place other f xs i = option_map_or f (slice_get xs i) other

-- the items up to the first that passes, with that one
abbrev pub items_up_to : {X : Type 0} → (X → Bool) → List X → List X
items_up_to passes xs = take (position_or_len passes xs + 1) xs
