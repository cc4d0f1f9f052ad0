-- The proleptic Gregorian calendar of ISO 8601: its rule holds for every year,
-- and the year before 1 is 0.
use Rattle.std.specs.Prelude.{ℕ, ◌%◌, Bool, not, ◌&&◌, ◌||◌, ◌==◌, if◌then◌else◌, ℤ, nat_le, unsigned_abs}

-- every fourth year is a leap year, but of the years that close a century every fourth alone
abbrev pub is_leap_year : ℤ → Bool
is_leap_year y =
    unsigned_abs y % 4 == 0 && (not (unsigned_abs y % 100 == 0) || unsigned_abs y % 400 == 0)

-- April, June, September and November have 30 days, February 28 or 29, the others 31
abbrev pub days_of_month : ℤ → ℕ → ℕ
days_of_month y m =
    if m == 2 then (if is_leap_year y then 29 else 28)
    else (if m == 4 || m == 6 || m == 9 || m == 11 then 30 else 31)

-- the year has this month, counted from 1
abbrev pub is_month : ℕ → Bool
is_month m = nat_le 1 m && nat_le m 12

-- the month of that year has this day, counted from 1
abbrev pub has_day : ℤ → ℕ → ℕ → Bool
has_day y m d = nat_le 1 d && nat_le d (days_of_month y m)
