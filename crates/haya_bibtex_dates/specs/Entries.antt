-- The date of an entry, by the texts of its fields.
use Rattle.std.specs.Prelude.{ℕ, ◌||◌, Bool, true, false, List, if◌then◌else◌, is_some, Option, None, Some, option_and_then}
use Rattle.haya_time.specs.declared.date.Date.{Date}
use Rattle.haya_bibtex_dates.specs.Calendar.{in_month, less_one, on_day, with_season}
use Rattle.haya_bibtex_dates.specs.Digits.{short_number}
use Rattle.haya_bibtex_dates.specs.Forms.{date_in}
use Rattle.haya_bibtex_dates.specs.Months.{month_in}
use Rattle.haya_bibtex_dates.specs.Years.{first_of, year_in}
use Rattle.haya_bibtex_dates.specs.declared.months.MonthText.{MonthText}
use Rattle.haya_bibtex_dates.specs.declared.months.MonthText.TheVariants.{Unread, InSeason, InMonth}

-- the texts of the fields that are there: their characters, and a day in UTF-8; a year as it
-- stands, and its text
pub record DateTexts : Type 0 where
  pub date : Option (List ℕ)
  pub year : Option (List ℕ × List ℕ)
  pub month : Option (List ℕ)
  pub day : Option (List ℕ)

-- a date, and which fields have a value that isn't read
pub record EntryDate : Type 0 where
  pub date : Option Date
  pub lost_date : Bool
  pub lost_year : Bool
  pub lost_month : Bool
  pub lost_day : Bool

abbrev pub entry_date : Option Date → Bool → Bool → Bool → EntryDate
entry_date date lost_year lost_month lost_day = record {
  date = date;
  lost_date = false;
  lost_year = lost_year;
  lost_month = lost_month;
  lost_day = lost_day;
}

-- ---- months and days of a year

-- the same date on another month and day
abbrev pub dated : Date → Option Date → Option Date
dated d None = None
dated d (Some on) = Some (record on { approximate = d.approximate })

abbrev pub of_month : Date → ℕ → Option Date
of_month d month = dated d (in_month d.year (Some month))

abbrev pub of_day : Date → ℕ → ℕ → Option Date
of_day d month day = dated d (on_day d.year (Some month) (less_one day))

-- a day of the month's own text, which the calendar has or not
abbrev pub own_day : Date → ℕ → Option Date → EntryDate
own_day d month None = entry_date (of_month d month) false true false
own_day d month (Some on) = entry_date (Some on) false false false

-- a day of the field `day`
abbrev pub asked_day_by : Date → ℕ → Option Date → EntryDate
asked_day_by d month None = entry_date (of_month d month) false false true
asked_day_by d month (Some on) = entry_date (Some on) false false false

abbrev pub day_by : Date → ℕ → Option ℕ → Option Date
day_by d month None = None
day_by d month (Some day) = of_day d month day

abbrev pub asked_day : Date → ℕ → Option (List ℕ) → EntryDate
asked_day d month None = entry_date (of_month d month) false false false
asked_day d month (Some text) = asked_day_by d month (day_by d month (short_number text))

abbrev pub in_month_by : Date → ℕ → Option ℕ → Option (List ℕ) → EntryDate
in_month_by d month (Some day) text = own_day d month (of_day d month day)
in_month_by d month None text = asked_day d month text

-- what a month's text tells of the date
abbrev pub by_month_text : Date → MonthText → Option (List ℕ) → EntryDate
by_month_text d Unread day = entry_date (Some d) false true (is_some day)
by_month_text d (InSeason season) day =
    entry_date (Some (with_season season d)) false false (is_some day)
by_month_text d (InMonth month number) day = in_month_by d month number day

abbrev pub by_month_field : Date → Option (List ℕ) → Option (List ℕ) → EntryDate
by_month_field d None day = entry_date (Some d) false false (is_some day)
by_month_field d (Some text) day = by_month_text d (month_in text) day

-- ---- years

-- a year that is a whole date leaves the month and the day aside
abbrev pub by_year : Option Date → Option (List ℕ) → Option (List ℕ) → EntryDate
by_year None month day = entry_date None true (is_some month) (is_some day)
by_year (Some d) month day =
    if is_some d.month || is_some d.season then entry_date (Some d) false false false
    else by_month_field d month day

abbrev pub by_year_field :
    Option (List ℕ × List ℕ) → Option (List ℕ) → Option (List ℕ) → EntryDate
by_year_field None month day = entry_date None false (is_some month) (is_some day)
by_year_field (Some p) month day = by_year (first_of (date_in p.0) (year_in p.1)) month day

-- ---- entries

abbrev pub without_date : DateTexts → EntryDate
without_date t = by_year_field t.year t.month t.day

abbrev pub by_date : DateTexts → Option Date → EntryDate
by_date t None = record (without_date t) { lost_date = is_some t.date }
by_date t (Some d) = entry_date (Some d) false false false

-- the date of `date`, and where that isn't there or isn't read that of `year`, `month` and `day`
abbrev pub date_of : DateTexts → EntryDate
date_of t = by_date t (option_and_then date_in t.date)
