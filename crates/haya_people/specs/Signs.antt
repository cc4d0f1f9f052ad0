-- The characters that the parts of a name are told by.
use Rattle.std.specs.Prelude.{ℕ}

abbrev pub blank : ℕ
blank = 32

abbrev pub comma : ℕ
comma = 44

abbrev pub hyphen : ℕ
hyphen = 45

abbrev pub full_stop : ℕ
full_stop = 46
