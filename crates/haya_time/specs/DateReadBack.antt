-- The dates that are read back from their printed text.
use Rattle.std.specs.Prelude.{◌≡◌, ℕ, ◌+◌, ◌≤◌, Bool, true, ◌&&◌, ℤ, Option, Some, None, is_none, unsigned_abs}
use Rattle.haya_time.specs.declared.date.Date.{Date}
use Rattle.haya_time.specs.DateCalendar.{is_month, has_day}

-- the calendar has this month and day of the year, if they are told, each kept less one; no day
-- is told without its month
abbrev pub is_on_calendar : ℤ → Option ℕ → Option ℕ → Bool
is_on_calendar y None day = is_none day
is_on_calendar y (Some m) None = is_month (m + 1)
is_on_calendar y (Some m) (Some d) = is_month (m + 1) && has_day y (m + 1) (d + 1)

-- a date of the years -9999 to 9999, on the calendar and with no season
pub record ReadsBack (d : Date) : Type 0 where
  pub year : unsigned_abs d.year ≤ 9999
  pub day : is_on_calendar d.year d.month d.day ≡ true
  pub season : d.season ≡ None
