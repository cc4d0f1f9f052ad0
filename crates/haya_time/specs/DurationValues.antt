-- What the parts of a duration's text mean.
use Rattle.std.specs.Prelude.{ℕ, ◌+◌, ◌*◌, ◌/◌, ◌%◌, ◌^◌, nat_lt, Bool, ◌||◌, List, length}
use Rattle.haya_time.specs.declared.duration.Duration.{Duration}
use Rattle.haya_time.specs.DurationText.{number}

-- the duration of days, hours, minutes and seconds as they are
abbrev pub clock : ℕ → ℕ → ℕ → ℕ → Duration
clock d h m s = record { days = d; hours = h; minutes = m; seconds = s; milliseconds = 0 }

-- minutes carry into hours, and hours into days
abbrev pub from_hours : ℕ → ℕ → ℕ → Duration
from_hours h m s = clock (h / 24) (h % 24) m s

abbrev pub from_minutes : ℕ → ℕ → Duration
from_minutes m s = from_hours (m / 60) (m % 60) s

-- A fraction of a second, of n over 10 to the number of its digits, in milliseconds, rounded half
-- up: the whole part of 1000 times the fraction and a half. Both sides of the division are doubled,
-- so that all are whole numbers.
abbrev pub milliseconds : List ℕ → ℕ
milliseconds fraction = (number fraction * 2000 + 10 ^ length fraction) / (2 * 10 ^ length fraction)

-- a value is more than the next greater unit leaves, or the fraction rounds up to a second
abbrev pub is_too_large : Duration → Bool
is_too_large d =
    nat_lt 23 d.hours || nat_lt 59 d.minutes || nat_lt 59 d.seconds || nat_lt 999 d.milliseconds
