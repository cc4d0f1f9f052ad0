-- Whole numbers, as JSON writes them.
use Rattle.std.specs.Prelude.{ℕ, Bool, ◌&&◌, ◌^◌, nat_lt, List, length, Option, None, Some, if◌then◌else◌, ℤ, pos, negsuc}
use Rattle.std.specs.Ordering.{int_eq}
use Rattle.std.specs.Str.{all_ascii_digits}
use Rattle.std.specs.Str.Parse.{signed_digits_value, without_leading_sign}
use Rattle.haya_time.specs.declared.date.Season.{Season}
use Rattle.haya_time.specs.declared.date.Season.TheVariants.{Spring, Summer, Autumn, Winter}

-- one digit or more, and nothing else
abbrev pub is_numeral : List ℕ → Bool
is_numeral digits = nat_lt 0 (length digits) && all_ascii_digits digits

-- whether 32 bits hold the number
abbrev pub is_i32 : ℤ → Bool
is_i32 (pos n) = nat_lt n (2 ^ 31)
is_i32 (negsuc n) = nat_lt n (2 ^ 31)

-- the number of digits, perhaps behind a sign, where 32 bits hold it
abbrev pub whole_read : List ℕ → Option ℤ
whole_read text =
    if is_numeral (without_leading_sign text) && is_i32 (signed_digits_value 10 text) then
    Some (signed_digits_value 10 text)
    else None

-- the number where 8 bits hold it without a sign
abbrev pub byte_of : ℤ → Option ℕ
byte_of (pos n) = if nat_lt n 256 then Some n else None
byte_of (negsuc n) = None

-- the season with this number, from 1 to 4
abbrev pub season_of : ℤ → Option Season
season_of n =
    if int_eq n (pos 1) then Some Spring
    else if int_eq n (pos 2) then Some Summer
    else if int_eq n (pos 3) then Some Autumn
    else if int_eq n (pos 4) then Some Winter
    else None
