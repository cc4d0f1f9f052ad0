-- The characters of a date's text.
use Rattle.std.specs.Prelude.{ℕ}

abbrev pub plus_sign : ℕ
plus_sign = 43

abbrev pub tilde : ℕ
tilde = 126
