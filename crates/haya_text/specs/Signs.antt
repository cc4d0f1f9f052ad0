-- The characters that a chunked text has a meaning for.
use Rattle.std.specs.Prelude.{ℕ}

abbrev pub backslash : ℕ
backslash = 92

abbrev pub open_brace : ℕ
open_brace = 123

abbrev pub close_brace : ℕ
close_brace = 125

abbrev pub dollar : ℕ
dollar = 36
