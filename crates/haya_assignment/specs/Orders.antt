-- Orders in which the positions are looked at.
use Rattle.std.specs.Prelude.{◌≡◌, ℕ, ◌<◌, All, length, ⊤}
use Rattle.haya_assignment.specs.declared.greedy.Order.{Order}
use Rattle.haya_assignment.specs.declared.greedy.Order.TheVariants.{Ascending, Listed}

-- an order lists as many positions as there are
abbrev pub AreListed : ℕ → Order → Type 0
AreListed parents Ascending = ⊤
AreListed parents (Listed positions) =
    (length positions.items ≡ parents) × All (λ j. j < parents) positions.items
