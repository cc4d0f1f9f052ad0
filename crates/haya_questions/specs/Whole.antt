-- Whole numbers, as they are written.
use Rattle.std.specs.Prelude.{ℕ, Bool, ◌&&◌, ◌^◌, nat_lt, List, length, Option, None, Some, if◌then◌else◌, ℤ, pos, negsuc}
use Rattle.std.specs.Str.{all_ascii_digits}
use Rattle.std.specs.Str.Parse.{signed_digits_value, without_leading_sign}

-- one digit or more, and nothing else
abbrev pub is_numeral : List ℕ → Bool
is_numeral digits = nat_lt 0 (length digits) && all_ascii_digits digits

-- whether 64 bits hold the number
abbrev pub is_i64 : ℤ → Bool
is_i64 (pos n) = nat_lt n (2 ^ 63)
is_i64 (negsuc n) = nat_lt n (2 ^ 63)

-- the number of digits, perhaps behind a sign, where 64 bits hold it
unfoldable pub whole_read : List ℕ → Option ℤ
whole_read text =
    if is_numeral (without_leading_sign text) && is_i64 (signed_digits_value 10 text) then
    Some (signed_digits_value 10 text)
    else None
