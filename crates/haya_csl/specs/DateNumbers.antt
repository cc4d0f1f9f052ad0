-- Dates by their numbers: a year, a month or a season, and a day.
use Rattle.std.specs.Prelude.{ℕ, ◌-◌, ◌==◌, ℤ, pos, nat_lt, unsigned_abs, false, ◌&&◌, List, [], ◌∷◌, Option, None, Some, option_and_then, option_map, if◌then◌else◌}
use Rattle.std.specs.Map.{lookup}
use Rattle.std.specs.Ordering.{int_eq}
use Rattle.haya_time.specs.DateReadBack.{is_on_calendar}
use Rattle.haya_time.specs.declared.date.Date.{Date}
use Rattle.haya_time.specs.declared.date.Season.{Season}
use Rattle.haya_time.specs.declared.date.Season.TheVariants.{Spring, Summer, Autumn, Winter}
use Rattle.haya_json.specs.Whole.{byte_of}
use Rattle.haya_csl.specs.declared.dates.calendar.Part.{Part}
use Rattle.haya_csl.specs.declared.dates.calendar.Part.TheVariants.{Missing, Unread, Number}

-- the first, and where there is none the second
abbrev pub first_of : {T : Type 0} → Option T → Option T → Option T
first_of None second = second
first_of (Some x) second = Some x

-- ---- seasons

-- as EDTF numbers them, where a month would be
abbrev pub edtf_seasons : List (ℤ × Season)
edtf_seasons =
    (pos 21, Spring)
    ∷ (pos 22, Summer)
    ∷ (pos 23, Autumn)
    ∷ (pos 24, Winter)
    ∷ []

-- as CSL numbers them, where a month would be
abbrev pub month_seasons : List (ℤ × Season)
month_seasons =
    (pos 13, Spring)
    ∷ (pos 14, Summer)
    ∷ (pos 15, Autumn)
    ∷ (pos 16, Winter)
    ∷ edtf_seasons

-- with the numbers that a season has on its own
abbrev pub all_seasons : List (ℤ × Season)
all_seasons =
    (pos 1, Spring)
    ∷ (pos 2, Summer)
    ∷ (pos 3, Autumn)
    ∷ (pos 4, Winter)
    ∷ month_seasons

abbrev pub season_in : List (ℤ × Season) → ℤ → Option Season
season_in seasons n = lookup (int_eq n) seasons

-- ---- the parts of a date

-- a part that is read as a number, or isn't
abbrev pub part_by : Option ℤ → Part
part_by None = Unread
part_by (Some n) = Number n

-- a month or a day of 0 is as if it were missing
abbrev pub unless_zero : Part → Part
unless_zero (Number n) = if int_eq n (pos 0) then Missing else Number n
unless_zero part = part

-- the season that a part is, by this table
abbrev pub part_season : List (ℤ × Season) → Part → Option Season
part_season seasons (Number n) = season_in seasons n
part_season seasons _ = None

-- ---- dates

abbrev pub date_with : ℤ → Option ℕ → Option ℕ → Date
date_with year month day = record {
  year = year;
  month = month;
  day = day;
  approximate = false;
  season = None;
}

-- the date, if it is one of the calendar's and of the years that texts of dates can write
abbrev pub on_calendar : Date → Option Date
on_calendar d =
    if nat_lt (unsigned_abs d.year) 10000 && is_on_calendar d.year d.month d.day then Some d
    else None

-- a month or a day, which dates count from 0 on
abbrev pub less_one : ℕ → Option ℕ
less_one n = if n == 0 then None else Some (n - 1)

abbrev pub counted : ℤ → Option ℕ
counted n = option_and_then less_one (byte_of n)

abbrev pub in_month : ℤ → Option ℕ → Option Date
in_month year None = None
in_month year (Some month) = on_calendar (date_with year (Some month) None)

abbrev pub on_day : ℤ → Option ℕ → Option ℕ → Option Date
on_day year (Some month) (Some day) = on_calendar (date_with year (Some month) (Some day))
on_day year _ _ = None

abbrev pub with_season : Season → Date → Date
with_season season d = record d { season = Some season }

-- the date of a season, or otherwise of the month
abbrev pub in_season : Option Season → ℤ → ℤ → Option Date
in_season None year month = in_month year (counted month)
in_season (Some season) year month =
    option_map (with_season season) (on_calendar (date_with year None None))

-- the date of a year, of a month or the season that it is, and of a day
abbrev pub date_at : ℤ → Part → Part → Option Season → Option Date
date_at year Missing Missing season = on_calendar (date_with year None None)
date_at year (Number month) Missing season = in_season season year month
date_at year (Number month) (Number day) season = on_day year (counted month) (counted day)
date_at year _ _ season = None
