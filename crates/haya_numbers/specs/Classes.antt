-- The classes of characters of which a number's text has runs.
use Rattle.std.specs.Prelude.{ℕ, Bool, ◌==◌, List, [], ◌∷◌, ◌++◌, Option, option_map, if◌then◌else◌}
use Rattle.std.specs.Char.{is_whitespace}
use Rattle.haya_numbers.specs.declared.numeric.reading.Class.{Class}
use Rattle.haya_numbers.specs.declared.numeric.reading.Class.TheVariants.{Affix, Zero, Numeric, White, Delimiter, Suffix}
use Rattle.haya_text.specs.Characters.{is_numeric, begins_with}
use Rattle.haya_numbers.specs.Characters.{is_delimiter, zero_digit}
use Rattle.haya_numbers.specs.Numeric.{Item}
use Rattle.haya_numbers.specs.NumericReading.{is_affix, is_suffix}

-- whether a character is of the class
abbrev pub has : Class → ℕ → Bool
has Affix = is_affix
has Zero = λ c. c == zero_digit
has Numeric = is_numeric
has White = is_whitespace
has Delimiter = is_delimiter
has Suffix = is_suffix

-- how many of these zeros are the number's own: the last one, where what follows isn't numeric
abbrev pub own_zeros : List ℕ → List ℕ → ℕ
own_zeros [] behind = 0
own_zeros (c ∷ cs) behind = if begins_with is_numeric behind then 0 else 1

-- the numbers of a set that were there, and then those that are read
abbrev pub appended : List Item → Option (List Item × List ℕ) → Option (List Item × List ℕ)
appended items more = option_map (λ p. (items ++ p.0, p.1)) more
