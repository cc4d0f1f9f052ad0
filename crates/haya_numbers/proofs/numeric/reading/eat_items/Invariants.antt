use Rattle.std.proofs.Common.{◌≡◌, ◌≤◌, ℕ, length}
use Rattle.haya_numbers.specs.Classes.{appended}
use Rattle.haya_numbers.specs.NumericReading.{items_front, items_read}
use Rattle.haya_numbers.proofs.numeric.reading.eat_items.Given as goal

-- the numbers so far, and those that are left to read, are those of the whole
abbrev pub invariant-items : goal.invariant-items
invariant-items l =
    (most : ℕ) × (length l.cursor.rest ≤ most) × (appended l.set.items (items_front most l.cursor.rest) ≡ appended l.initial.set.items (items_read l.initial.cursor.rest))

abbrev pub decreases-items : goal.decreases-items
decreases-items l = length l.cursor.rest
