-- Worked rows of the definitions.
use Rattle.std.proofs.Common.{◌≡◌, ℤ, pos, negsuc, true, false, None, Some, Ok, Err, refl}
use Rattle.std.specs.Prelude.{codes}
use Rattle.std.specs.declared.cmp.Ordering.TheVariants.{Less}
use Rattle.std.specs.Fmt.{digits}
use Rattle.ucd_category.proofs.Computing.{ucd_category}
use Rattle.haya_time.specs.declared.date.Date.{Date}
use Rattle.haya_time.specs.declared.date.DateError.TheVariants.{UnknownFormat, MonthOutOfBounds, DayOutOfBounds}
use Rattle.haya_time.specs.DateCalendar.{days_of_month}
use Rattle.haya_time.specs.DateOrder.{date_partial_cmp, date_csl_cmp}
use Rattle.haya_time.specs.DatePrinted.{date_text, year_text}
use Rattle.haya_time.specs.DateReading.{date_read}

abbrev year_alone : ℤ → Date
year_alone y = record { year = y; month = None; day = None; approximate = false; season = None }

abbrev may : Date
may = record { year = pos 2014; month = Some 4; day = None; approximate = false; season = None }

-- texts that are read
year_month : date_read (codes "~ 1961 - 05") ≡ Ok (record { year = pos 1961; month = Some 4; day = None; approximate = true; season = None })
unfolding ucd_category
year_month = refl

short_year : date_read (codes "-44-03-15 ") ≡ Ok (record { year = pos 1956; month = Some 2; day = Some 14; approximate = false; season = None })
unfolding ucd_category
short_year = refl

before : date_read (codes "-0005") ≡ Ok (year_alone (negsuc 4))
unfolding ucd_category
before = refl

-- texts that are refused, for their beginning or as they have no form
bad_month : date_read (codes "2014-13x") ≡ Err MonthOutOfBounds
unfolding ucd_category
bad_month = refl

bad_day : date_read (codes "2014-02-29") ≡ Err (DayOutOfBounds 29)
unfolding ucd_category
bad_day = refl

no_day : date_read (codes "2014-05-00") ≡ Err (DayOutOfBounds 0)
unfolding ucd_category
no_day = refl

no_form : date_read (codes "99-5") ≡ Err UnknownFormat
unfolding ucd_category
no_form = refl

-- leap years
century : days_of_month (pos 1900) 2 ≡ 28
century = refl

fourth_century : days_of_month (pos 2000) 2 ≡ 29
fourth_century = refl

-- printed dates and years
printed : date_text may ≡ codes "2014-05"
unfolding digits
printed = refl

printed_before : date_text (year_alone (negsuc 4)) ≡ codes "-0005"
unfolding digits
printed_before = refl

eras : year_text false true true true (pos 2020) ≡ codes "A.D. 2020"
unfolding digits
eras = refl

year_zero : year_text false true false false (pos 0) ≡ codes "1 B.C."
unfolding digits
year_zero = refl

-- a year beside a month of it
unanswered : date_partial_cmp (year_alone (pos 2014)) may ≡ None
unanswered = refl

by_csl : date_csl_cmp (year_alone (pos 2014)) may ≡ Less
by_csl = refl
