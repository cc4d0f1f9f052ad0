-- The numbers of a set's items.
use Rattle.std.specs.Prelude.{ℤ, List, map, Option}
use Rattle.haya_numbers.specs.declared.numeric.NumericDelimiter.{NumericDelimiter}

-- a number of a set, with the delimiter that follows it
abbrev pub Item : Type 0
Item = ℤ × Option NumericDelimiter

abbrev pub numbers_of : List Item → List ℤ
numbers_of items = map (λ i. i.0) items
