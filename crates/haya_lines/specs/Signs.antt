-- The characters that lines are made with.
use Rattle.std.specs.Prelude.{ℕ}

abbrev pub tab : ℕ
tab = 9

abbrev pub line_feed : ℕ
line_feed = 10

abbrev pub equals_sign : ℕ
equals_sign = 61

abbrev pub colon : ℕ
colon = 58
