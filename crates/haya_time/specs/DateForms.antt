-- The forms of a date's text, and its faults.
use Rattle.std.specs.Prelude.{◌≡◌, ℕ, ◌-◌, ◌≤◌, Bool, true, false, ◌==◌, if◌then◌else◌, List, [], ◌∷◌, length, Option, Some, None, ℤ, pos, neg_ℤ, ◌+ℤ◌, int_lt}
use Rattle.std.specs.Str.{all_ascii_digits}
use Rattle.std.specs.Str.Parse.{digits_value}
use Rattle.haya_time.specs.declared.date.Date.{Date}
use Rattle.haya_time.specs.declared.date.DateError.{DateError}
use Rattle.haya_time.specs.declared.date.DateError.TheVariants.{UnknownFormat, MonthOutOfBounds, DayOutOfBounds}
use Rattle.haya_time.specs.DateCalendar.{is_month, has_day}
use Rattle.haya_text.specs.Characters.{begins_with, is_numeric, hyphen}
use Rattle.haya_time.specs.DateText.{plus_sign, tilde}
use Rattle.haya_time.specs.TextFront.{BeginsWith, IsBlank}

-- whether the text begins with that character, and what follows
pub data HasMark : ℕ → List ℕ → Bool → List ℕ → Type 0 where
  marked : {c : ℕ} {text rest : List ℕ} → BeginsWith (c ∷ []) text rest → HasMark c text true rest
  unmarked : {c : ℕ} {text : List ℕ} → HasMark c text false text

-- whether the text begins with a minus, and what follows the sign, if there is one
pub data HasSign : List ℕ → Bool → List ℕ → Type 0 where
  minus : {text rest : List ℕ} → BeginsWith (hyphen ∷ []) text rest → HasSign text true rest
  plus : {text rest : List ℕ} → BeginsWith (plus_sign ∷ []) text rest → HasSign text false rest
  unsigned : {text : List ℕ} → HasSign text false text

-- The text begins with a number of so many digits, and goes on with the rest. The digits are ASCII,
-- and no other numeric character stands among them or follows them.
pub record BeginsWithNumber (text : List ℕ) (count value : ℕ) (rest : List ℕ) : Type 0 where
  pub digits : List ℕ
  pub stands : BeginsWith digits text rest
  pub ascii : all_ascii_digits digits ≡ true
  pub whole : begins_with is_numeric rest ≡ false
  pub counted : length digits ≡ count
  pub valued : digits_value 10 digits ≡ value

-- the calendar year that a number of four digits names, or of two: from 1950
-- to 2049 where no sign is
abbrev pub calendar_year : ℕ → ℤ → Option ℤ
calendar_year count n =
    if count == 4 then Some n
    else if count == 2 then
    (if int_lt n (pos 50) then Some (n +ℤ pos 2000) else Some (n +ℤ pos 1900))
    else None

abbrev pub with_sign : Bool → ℕ → ℤ
with_sign negative n = if negative then neg_ℤ (pos n) else pos n

-- what a date's text begins with: perhaps a tilde, and a year of two or four digits
pub record Opening : Type 0 where
  pub approximate : Bool
  pub count : ℕ
  pub year : ℤ
  pub rest : List ℕ

pub record OpensWith (text : List ℕ) (o : Opening) : Type 0 where
  pub unmarked : List ℕ
  pub unsigned : List ℕ
  pub negative : Bool
  pub value : ℕ
  pub mark : HasMark tilde text o.approximate unmarked
  pub sign : HasSign unmarked negative unsigned
  pub number : BeginsWithNumber unsigned o.count value o.rest
  pub named : calendar_year o.count (with_sign negative value) ≡ Some o.year

-- the text begins with a hyphen and a number of one or two digits
pub record BeginsWithPart (text : List ℕ) (n : ℕ) (rest : List ℕ) : Type 0 where
  pub after : List ℕ
  pub count : ℕ
  pub joint : BeginsWith (hyphen ∷ []) text after
  pub number : BeginsWithNumber after count n rest
  pub low : 1 ≤ count
  pub high : count ≤ 2

-- the date with this year, and perhaps this month and day, which are kept less one
abbrev pub date_with : Opening → Option ℕ → Option ℕ → Date
date_with o month day = record {
  year = o.year;
  month = month;
  day = day;
  approximate = o.approximate;
  season = None;
}

-- what a whole text reads as: a year of four digits, with a month or without, or a full date
pub data ReadsAs : List ℕ → Date → Type 0 where
  year : {text : List ℕ} {o : Opening} → OpensWith text o → o.count ≡ 4 → IsBlank o.rest
      → ReadsAs text (date_with o None None)
  month : {text rest : List ℕ} {o : Opening} {m : ℕ} → OpensWith text o → o.count ≡ 4
      → BeginsWithPart o.rest m rest → is_month m ≡ true
      → IsBlank rest → ReadsAs text (date_with o (Some (m - 1)) None)
  day : {text between rest : List ℕ} {o : Opening} {m d : ℕ} → OpensWith text o
      → BeginsWithPart o.rest m between → is_month m ≡ true
      → BeginsWithPart between d rest → has_day o.year m d ≡ true → IsBlank rest
      → ReadsAs text (date_with o (Some (m - 1)) (Some (d - 1)))

-- the text begins with a year and a month that no year has, whatever follows
pub record HasBadMonth (text : List ℕ) : Type 0 where
  pub o : Opening
  pub m : ℕ
  pub rest : List ℕ
  pub opens : OpensWith text o
  pub month : BeginsWithPart o.rest m rest
  pub bad : is_month m ≡ false

-- the text begins with a year, a month and a day that the month doesn't have, whatever follows
pub record HasBadDay (text : List ℕ) (d : ℕ) : Type 0 where
  pub o : Opening
  pub m : ℕ
  pub between : List ℕ
  pub rest : List ℕ
  pub opens : OpensWith text o
  pub month : BeginsWithPart o.rest m between
  pub good : is_month m ≡ true
  pub day : BeginsWithPart between d rest
  pub bad : has_day o.year m d ≡ false

-- why a text is refused: by its beginning, or as it has no form
abbrev pub IsRefusedAs : List ℕ → DateError → Type 0
IsRefusedAs text MonthOutOfBounds = HasBadMonth text
IsRefusedAs text (DayOutOfBounds d) = HasBadDay text d
IsRefusedAs text UnknownFormat =
    ((d : Date) → ¬ (ReadsAs text d)) × ¬ (HasBadMonth text) × ((d : ℕ) → ¬ (HasBadDay text d))
