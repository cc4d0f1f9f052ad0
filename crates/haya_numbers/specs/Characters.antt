-- The characters of numbers and pages.
use Rattle.std.specs.Prelude.{ℕ, Bool, ◌==◌, ◌||◌}
use Rattle.haya_text.specs.Characters.{comma, hyphen}

abbrev pub ampersand : ℕ
ampersand = 38

abbrev pub zero_digit : ℕ
zero_digit = 48

abbrev pub en_dash : ℕ
en_dash = 8211

abbrev pub blank : ℕ
blank = 32

-- a character that may stand between two numbers of a set
abbrev pub is_delimiter : ℕ → Bool
is_delimiter c = c == comma || c == ampersand || c == hyphen || c == en_dash
