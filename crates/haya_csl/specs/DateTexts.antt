-- Dates in texts: the model's own form, ISO 8601 and EDTF, and English.
use Rattle.std.specs.Prelude.{ℕ, pos, Bool, ◌||◌, ◌==◌, nat_le, List, [], ◌∷◌, length, map, Option, None, Some, codes, is_some, option_map, unwrap_or, if◌then◌else◌}
use Rattle.std.specs.Char.{to_ascii_lowercase}
use Rattle.std.specs.Map.{lookup}
use Rattle.std.specs.Result.{result_ok}
use Rattle.std.specs.Str.{all_ascii_digits, bytes_eq, chars, trim, trim_start}
use Rattle.haya_text.specs.Characters.{comma, hyphen}
use Rattle.haya_time.specs.DateReading.{date_read}
use Rattle.haya_time.specs.DateText.{tilde}
use Rattle.haya_time.specs.declared.date.Date.{Date}
use Rattle.haya_json.specs.Whole.{whole_read}
use Rattle.haya_csl.specs.DateNumbers.{date_at, edtf_seasons, first_of, part_by, part_season, unless_zero}
use Rattle.haya_csl.specs.Markup.{cut}
use Rattle.haya_csl.specs.declared.dates.calendar.Part.{Part}
use Rattle.haya_csl.specs.declared.dates.calendar.Part.TheVariants.{Missing, Unread, Number}

-- a text without the white space around it, in lower case
unfoldable pub plain : List ℕ → List ℕ
plain text = map to_ascii_lowercase (trim text)

-- ---- signs

abbrev pub space : ℕ
space = 32

abbrev pub percent : ℕ
percent = 37

abbrev pub dot : ℕ
dot = 46

abbrev pub slash : ℕ
slash = 47

abbrev pub question_mark : ℕ
question_mark = 63

-- ---- pieces of a text

-- what appears before the first of these signs, and behind it; without one the whole text, and
-- nothing
abbrev pub split_off : ℕ → List ℕ → List ℕ × List ℕ
split_off sign text = unwrap_or (cut sign text) (text, [])

abbrev pub ended : Option (List ℕ × List ℕ) → Option (List ℕ)
ended None = None
ended (Some p) = if length p.1 == 0 then Some p.0 else None

-- the text before this sign, where the sign ends it
abbrev pub before_end : ℕ → List ℕ → Option (List ℕ)
before_end sign text = ended (cut sign text)

-- the text before a sign of EDTF for a date that is uncertain or approximate
abbrev pub before_mark : List ℕ → Option (List ℕ)
before_mark text =
    first_of (before_end tilde text)
    (first_of (before_end question_mark text) (before_end percent text))

-- a word without the dot or the comma behind it
abbrev pub bare_word : List ℕ → List ℕ
bare_word text = unwrap_or (first_of (before_end dot text) (before_end comma text)) text

-- the first word, and what follows it
unfoldable pub split_word : List ℕ → List ℕ × List ℕ
split_word text =
    let parts = split_off space text in
    (bare_word parts.0, trim_start parts.1)

-- ---- numbers and names

abbrev pub numeral : List ℕ → Part
numeral text = if all_ascii_digits text then part_by (whole_read text) else Unread

-- a year has four digits
abbrev pub year_in : List ℕ → Part
year_in text = if length text == 4 then numeral text else Unread

-- a month or a day has one or two
abbrev pub short_in : List ℕ → Part
short_in [] = Missing
short_in text = if nat_le (length text) 2 then unless_zero (numeral text) else Unread

abbrev pub season_names : List (List ℕ × Part)
season_names =
    (codes "spring", Number (pos 21))
    ∷ (codes "summer", Number (pos 22))
    ∷ (codes "autumn", Number (pos 23))
    ∷ (codes "fall", Number (pos 23))
    ∷ (codes "winter", Number (pos 24))
    ∷ []

abbrev pub short_names : List (List ℕ × Part)
short_names =
    (codes "jan", Number (pos 1))
    ∷ (codes "feb", Number (pos 2))
    ∷ (codes "mar", Number (pos 3))
    ∷ (codes "apr", Number (pos 4))
    ∷ (codes "jun", Number (pos 6))
    ∷ (codes "jul", Number (pos 7))
    ∷ (codes "aug", Number (pos 8))
    ∷ (codes "sep", Number (pos 9))
    ∷ (codes "oct", Number (pos 10))
    ∷ (codes "nov", Number (pos 11))
    ∷ (codes "dec", Number (pos 12))
    ∷ season_names

-- the numbers of months, and of seasons as EDTF numbers them
abbrev pub month_names : List (List ℕ × Part)
month_names =
    (codes "january", Number (pos 1))
    ∷ (codes "february", Number (pos 2))
    ∷ (codes "march", Number (pos 3))
    ∷ (codes "april", Number (pos 4))
    ∷ (codes "may", Number (pos 5))
    ∷ (codes "june", Number (pos 6))
    ∷ (codes "july", Number (pos 7))
    ∷ (codes "august", Number (pos 8))
    ∷ (codes "september", Number (pos 9))
    ∷ (codes "october", Number (pos 10))
    ∷ (codes "november", Number (pos 11))
    ∷ (codes "december", Number (pos 12))
    ∷ short_names

abbrev pub named_in : List (List ℕ × Part) → List ℕ → Part
named_in names word = unwrap_or (lookup (bytes_eq word) names) Unread

-- ---- dates

abbrev pub date_of : Part → Part → Part → Option Date
date_of (Number year) month day = date_at year month day (part_season edtf_seasons month)
date_of _ month day = None

-- the date, which is approximate where it is marked as such
abbrev pub marked : Bool → Date → Date
marked mark d = record d { approximate = d.approximate || mark }

abbrev pub is_marked : List ℕ → Bool
is_marked text = is_some (before_mark text)

abbrev pub unmarked : List ℕ → List ℕ
unmarked text = unwrap_or (before_mark text) text

-- a day behind a month that is missing is as if it were missing, too
abbrev pub day_behind : Part → Part → Part
day_behind Missing (Number day) = Missing
day_behind month day = day

abbrev pub of_numbers : List ℕ → List ℕ → List ℕ → Option Date
of_numbers year month day =
    let of_month = short_in (unmarked month) in
    option_map (marked (is_marked year || is_marked month || is_marked day))
    (date_of (year_in (unmarked year)) of_month
    (day_behind of_month (short_in (unmarked day))))

-- a year, a month and a day, separated by this sign
unfoldable pub by_numbers : ℕ → List ℕ → Option Date
by_numbers sign text =
    let year = split_off sign text in
    let month = split_off sign year.1 in
    of_numbers year.0 month.0 month.1

abbrev pub of_words : List ℕ → List ℕ → List ℕ → Option Date
of_words day month year = date_of (year_in year) (named_in month_names month) (short_in day)

-- a month and a year, with the day before the month or behind it
abbrev pub by_three : List ℕ → List ℕ → List ℕ → Option Date
by_three first second [] = of_words [] first second
by_three first second third = first_of (of_words first second third) (of_words second first third)

unfoldable pub by_words : List ℕ → Option Date
by_words text =
    let first = split_word text in
    let second = split_word first.1 in
    let third = split_word second.1 in
    if length third.1 == 0 then by_three first.0 second.0 third.0 else None

-- the date of a plain text: as the model reads it, or otherwise by numbers or words
unfoldable pub date_in : List ℕ → Option Date
date_in text =
    first_of (result_ok (date_read (chars text)))
    (first_of (by_numbers hyphen text) (first_of (by_numbers slash text) (by_words text)))

-- ---- ranges

abbrev pub start_before : List ℕ → List ℕ → Option (List ℕ)
start_before [] end = None
start_before start end = if is_some (cut slash end) then None else Some start

abbrev pub start_of : Option (List ℕ × List ℕ) → Option (List ℕ)
start_of None = None
start_of (Some p) = start_before p.0 p.1

-- the text of the date that begins a range, which one slash separates from its end
unfoldable pub range_start : List ℕ → Option (List ℕ)
range_start text = start_of (cut slash text)
