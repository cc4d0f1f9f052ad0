-- Dates by their years, months and days.
use Rattle.std.specs.Prelude.{ℕ, ◌-◌, ◌==◌, ◌&&◌, ◌||◌, ℤ, pos, neg_ℤ, nat_lt, unsigned_abs, Bool, false, if◌then◌else◌, Option, None, Some}
use Rattle.haya_time.specs.DateReadBack.{is_on_calendar}
use Rattle.haya_time.specs.declared.date.Date.{Date}
use Rattle.haya_time.specs.declared.date.Season.{Season}
use Rattle.haya_time.specs.declared.date.Season.TheVariants.{Spring, Summer, Autumn, Winter}
use Rattle.haya_bibtex_dates.specs.declared.calendar.Part.{Part}
use Rattle.haya_bibtex_dates.specs.declared.calendar.Part.TheVariants.{Missing, Unknown, Number}

abbrev pub date_with : ℤ → Option ℕ → Option ℕ → Date
date_with year month day = record {
  year = year;
  month = month;
  day = day;
  approximate = false;
  season = None;
}

abbrev pub year_date : ℤ → Date
year_date year = date_with year None None

-- the date, if it is one of the calendar's
abbrev pub on_calendar : Date → Option Date
on_calendar d =
    if nat_lt (unsigned_abs d.year) 10000 && is_on_calendar d.year d.month d.day then Some d
    else None

-- a month or a day, which dates count from 0 on
abbrev pub less_one : ℕ → Option ℕ
less_one n = if n == 0 then None else Some (n - 1)

abbrev pub in_month : ℤ → Option ℕ → Option Date
in_month year None = None
in_month year (Some month) = on_calendar (date_with year (Some month) None)

abbrev pub on_day : ℤ → Option ℕ → Option ℕ → Option Date
on_day year None day = None
on_day year (Some month) None = None
on_day year (Some month) (Some day) = on_calendar (date_with year (Some month) (Some day))

-- the season that a number in the place of a month means
abbrev pub season_of : ℕ → Option Season
season_of n =
    if n == 21 then Some Spring
    else if n == 22 then Some Summer
    else if n == 23 then Some Autumn
    else if n == 24 then Some Winter
    else None

abbrev pub with_season : Season → Date → Date
with_season season d = record d { season = Some season }

abbrev pub in_season : ℤ → ℕ → Option Season → Option Date
in_season year month None = in_month year (less_one month)
in_season year month (Some season) = Some (with_season season (year_date year))

-- the date of a year, a month and a day; `XX` in the place of one is as if it weren't there, but a
-- day has to have its month
abbrev pub date_by : ℤ → Part → Part → Option Date
date_by year Missing day = Some (year_date year)
date_by year Unknown Missing = Some (year_date year)
date_by year Unknown Unknown = Some (year_date year)
date_by year Unknown (Number day) = None
date_by year (Number month) Missing = in_season year month (season_of month)
date_by year (Number month) Unknown = in_season year month (season_of month)
date_by year (Number month) (Number day) = on_day year (less_one month) (less_one day)

abbrev pub with_sign : Bool → ℕ → ℤ
with_sign negative n = if negative then neg_ℤ (pos n) else pos n

abbrev pub marked : Bool → Date → Date
marked mark d = record d { approximate = d.approximate || mark }
