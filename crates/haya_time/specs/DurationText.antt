-- The characters of which durations are written.
use Rattle.std.specs.Prelude.{ℕ, ◌==◌, not, List, count_by}
use Rattle.std.specs.Str.Parse.{digits_value}
use Rattle.haya_text.specs.Characters.{hyphen, run}

abbrev pub colon : ℕ
colon = 58

-- the number that decimal digits write
abbrev pub number : List ℕ → ℕ
number digits = digits_value 10 digits

-- how many colons stand before the first hyphen, or before the end
abbrev pub colons : List ℕ → ℕ
colons text = count_by (λ c. c == colon) (run (λ c. not (c == hyphen)) text)
