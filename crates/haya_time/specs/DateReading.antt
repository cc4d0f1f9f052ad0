-- What a date's text reads as, computed.
use Rattle.std.specs.Prelude.{ℕ, ◌-◌, Bool, true, false, ◌&&◌, ◌==◌, nat_le, if◌then◌else◌, List, length, Option, Some, None, Result, Ok, Err}
use Rattle.std.specs.Char.{is_whitespace}
use Rattle.std.specs.List.{list_all}
use Rattle.std.specs.Str.{all_ascii_digits, skip_leading_whitespace}
use Rattle.std.specs.Str.Parse.{digits_value}
use Rattle.haya_time.specs.declared.date.Date.{Date}
use Rattle.haya_time.specs.declared.date.DateError.{DateError}
use Rattle.haya_time.specs.declared.date.DateError.TheVariants.{UnknownFormat, MonthOutOfBounds, DayOutOfBounds}
use Rattle.haya_time.specs.DateCalendar.{is_month, has_day}
use Rattle.haya_time.specs.DateForms.{Opening, calendar_year, with_sign, date_with}
use Rattle.haya_text.specs.Characters.{is_numeric, hyphen, run, behind_run}
use Rattle.haya_time.specs.DateText.{plus_sign, tilde}
use Rattle.haya_time.specs.TextFront.{behind}
use Rattle.std.specs.Prelude.{ℤ}

-- how many digits a run has, at most four, and their value
abbrev pub number_of : List ℕ → Option (ℕ × ℕ)
number_of cs =
    if all_ascii_digits cs && nat_le (length cs) 4 then Some (length cs, digits_value 10 cs)
    else None

-- a number at the front of a text, perhaps behind white space, and what follows
pub record Number : Type 0 where
  pub count : ℕ
  pub value : ℕ
  pub rest : List ℕ

abbrev pub number_before : Option (ℕ × ℕ) → List ℕ → Option Number
number_before None rest = None
number_before (Some n) rest = Some (record { count = n.0; value = n.1; rest = rest })

abbrev pub number_at : List ℕ → Option Number
number_at text =
    let front = skip_leading_whitespace text in
    number_before (number_of (run is_numeric front)) (behind_run is_numeric front)

-- whether a mark or a minus stands there, and what follows
abbrev pub mark_of : List ℕ → Option (List ℕ) → Bool × List ℕ
mark_of text None = (false, text)
mark_of text (Some rest) = (true, rest)

abbrev pub mark_at : List ℕ → Bool × List ℕ
mark_at text = mark_of text (behind tilde text)

abbrev pub sign_by : List ℕ → Option (List ℕ) → Option (List ℕ) → Bool × List ℕ
sign_by text (Some rest) p = (true, rest)
sign_by text None (Some rest) = (false, rest)
sign_by text None None = (false, text)

abbrev pub sign_at : List ℕ → Bool × List ℕ
sign_at text = sign_by text (behind hyphen text) (behind plus_sign text)

abbrev pub opening_with : Bool → ℕ → List ℕ → Option ℤ → Option Opening
opening_with approximate count rest None = None
opening_with approximate count rest (Some year) =
    Some (record { approximate = approximate; count = count; year = year; rest = rest })

abbrev pub opening_by : Bool → Bool → Option Number → Option Opening
opening_by approximate negative None = None
opening_by approximate negative (Some n) =
    opening_with approximate n.count n.rest (calendar_year n.count (with_sign negative n.value))

abbrev pub opening_after_sign : Bool → Bool × List ℕ → Option Opening
opening_after_sign approximate s = opening_by approximate s.0 (number_at s.1)

abbrev pub opening_after_mark : Bool × List ℕ → Option Opening
opening_after_mark m = opening_after_sign m.0 (sign_at m.1)

abbrev pub opening_at : List ℕ → Option Opening
opening_at text = opening_after_mark (mark_at text)

-- a number of one or two digits behind a hyphen, and what follows
abbrev pub part_by : Option Number → Option (ℕ × List ℕ)
part_by None = None
part_by (Some n) = if nat_le 1 n.count && nat_le n.count 2 then Some (n.value, n.rest) else None

abbrev pub part_behind : Option (List ℕ) → Option (ℕ × List ℕ)
part_behind None = None
part_behind (Some text) = part_by (number_at text)

abbrev pub part_at : List ℕ → Option (ℕ × List ℕ)
part_at text = part_behind (behind hyphen text)

-- the date, if nothing but white space is left
abbrev pub date_at_end : Bool → Date → List ℕ → Result Date DateError
date_at_end complete date rest =
    if complete && list_all is_whitespace rest then Ok date else Err UnknownFormat

abbrev pub with_day : Opening → ℕ → List ℕ → Option (ℕ × List ℕ) → Result Date DateError
with_day o m rest None = date_at_end (o.count == 4) (date_with o (Some (m - 1)) None) rest
with_day o m rest (Some p) =
    if has_day o.year m p.0 then date_at_end true (date_with o (Some (m - 1)) (Some (p.0 - 1))) p.1
    else Err (DayOutOfBounds p.0)

abbrev pub with_month : Opening → Option (ℕ × List ℕ) → Result Date DateError
with_month o None = date_at_end (o.count == 4) (date_with o None None) o.rest
with_month o (Some p) =
    if is_month p.0 then with_day o p.0 p.1 (part_at p.1) else Err MonthOutOfBounds

abbrev pub with_opening : Option Opening → Result Date DateError
with_opening None = Err UnknownFormat
with_opening (Some o) = with_month o (part_at o.rest)

-- the one value or fault of a text
abbrev pub date_read : List ℕ → Result Date DateError
date_read text = with_opening (opening_at text)
