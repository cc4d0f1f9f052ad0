use Rattle.std.proofs.Common.{◌≡◌, length}
use Rattle.haya_numbers.specs.NumericBack.{items_read_back}
use Rattle.haya_numbers.proofs.numeric.back.items_read_back.Given as goal

-- the answer is that of the rest
abbrev pub invariant-items : goal.invariant-items
invariant-items l = items_read_back l.rest ≡ items_read_back l.items

abbrev pub decreases-items : goal.decreases-items
decreases-items l = length l.rest
