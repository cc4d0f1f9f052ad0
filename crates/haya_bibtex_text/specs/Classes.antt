-- Classes of characters.
use Rattle.std.specs.Prelude.{ℕ, Bool, ◌==◌, ◌||◌, ◌&&◌, nat_le, not}
use Rattle.std.specs.Char.{is_whitespace}
use Rattle.haya_bibtex_text.specs.declared.classes.Class.{Class}
use Rattle.haya_bibtex_text.specs.declared.classes.Class.TheVariants.{White, Digit, Name, Key}

-- a character with the property White_Space of Unicode
unfoldable pub is_white : ℕ → Bool
is_white c = is_whitespace c

-- `0` to `9`
unfoldable pub is_digit : ℕ → Bool
is_digit c = nat_le 48 c && nat_le c 57

-- the characters that end a name: " # % ' ( ) , = @ \ { }
abbrev pub is_mark : ℕ → Bool
is_mark c =
    (c == 34) || (c == 35) || (c == 37) || (c == 39) || (c == 40) || (c == 41) || (c == 44)
    || (c == 61) || (c == 64) || (c == 92) || (c == 123) || (c == 125)

unfoldable pub in_name : ℕ → Bool
in_name c = not (is_mark c) && not (is_white c)

-- in the key of an entry that this bracket closes: neither white, nor a comma, nor the bracket
unfoldable pub in_key : ℕ → ℕ → Bool
in_key close c = not (is_white c || (c == 44) || (c == close))

abbrev pub contains : Class → ℕ → Bool
contains White = is_white
contains Digit = is_digit
contains Name = in_name
contains (Key close) = in_key close
