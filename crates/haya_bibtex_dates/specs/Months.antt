-- Months in texts, as `10 January`, `Sept.` and `Spring`.
use Rattle.std.specs.Prelude.{ℕ, ◌-◌, ◌==◌, ◌||◌, ◌&&◌, not, nat_le, Bool, List, [], ◌∷◌, codes, encode_utf8_all, filter, length, map, take, if◌then◌else◌, Option, None, Some}
use Rattle.std.specs.Char.{to_ascii_lowercase}
use Rattle.std.specs.List.{position_or_len, slice_split}
use Rattle.std.specs.Map.{lookup}
use Rattle.std.specs.Str.{bytes_eq}
use Rattle.haya_time.specs.declared.date.Season.{Season}
use Rattle.haya_time.specs.declared.date.Season.TheVariants.{Spring, Summer, Autumn, Winter}
use Rattle.haya_bibtex_dates.specs.Digits.{short_number}
use Rattle.haya_bibtex_dates.specs.Years.{first_told}
use Rattle.haya_bibtex_dates.specs.declared.months.MonthText.{MonthText}
use Rattle.haya_bibtex_dates.specs.declared.months.MonthText.TheVariants.{Unread, InSeason, InMonth}

-- ---- words

-- a blank, or one that doesn't break
abbrev pub is_blank : ℕ → Bool
is_blank c = (c == 32) || (c == 160)

-- a hyphen, a dash or a slash
abbrev pub is_dash : ℕ → Bool
is_dash c = (c == 45) || (c == 8211) || (c == 8212) || (c == 47)

abbrev pub is_kept : ℕ → Bool
is_kept c = not ((c == 46) || (c == 44))

abbrev pub bare_chars : List ℕ → List ℕ
bare_chars w = map to_ascii_lowercase (filter is_kept w)

-- a word up to its first dash, without dots and commas, in lower case and UTF-8
abbrev pub bare_word : List ℕ → List ℕ
bare_word w = encode_utf8_all (bare_chars (take (position_or_len is_dash w) w))

abbrev pub has_chars : List ℕ → Bool
has_chars w = not (length w == 0)

abbrev pub bare_words : List ℕ → List (List ℕ)
bare_words text = filter has_chars (map bare_word (slice_split is_blank text))

-- ---- names of months and seasons

abbrev pub short_months : List (List ℕ × ℕ)
short_months =
    (codes "jan", 0)
    ∷ (codes "feb", 1)
    ∷ (codes "mar", 2)
    ∷ (codes "apr", 3)
    ∷ (codes "jun", 5)
    ∷ (codes "jul", 6)
    ∷ (codes "aug", 7)
    ∷ (codes "sep", 8)
    ∷ (codes "sept", 8)
    ∷ (codes "oct", 9)
    ∷ (codes "nov", 10)
    ∷ (codes "dec", 11)
    ∷ []

abbrev pub months : List (List ℕ × ℕ)
months =
    (codes "january", 0)
    ∷ (codes "february", 1)
    ∷ (codes "march", 2)
    ∷ (codes "april", 3)
    ∷ (codes "may", 4)
    ∷ (codes "june", 5)
    ∷ (codes "july", 6)
    ∷ (codes "august", 7)
    ∷ (codes "september", 8)
    ∷ (codes "october", 9)
    ∷ (codes "november", 10)
    ∷ (codes "december", 11)
    ∷ short_months

abbrev pub seasons : List (List ℕ × Season)
seasons =
    (codes "spring", Spring)
    ∷ (codes "summer", Summer)
    ∷ (codes "autumn", Autumn)
    ∷ (codes "fall", Autumn)
    ∷ (codes "winter", Winter)
    ∷ []

abbrev pub named_in : {X : Type 0} → List (List ℕ × X) → List ℕ → Option X
named_in names w = lookup (bytes_eq w) names

-- ---- what a text tells

-- a number alone is that of a month
abbrev pub month_numbered : Option ℕ → MonthText
month_numbered None = Unread
month_numbered (Some n) =
    if nat_le 1 n && nat_le n 12 then InMonth (n - 1) None else Unread

abbrev pub by_number : List (List ℕ) → Option ℕ → MonthText
by_number ws number = if length ws == 1 then month_numbered number else Unread

abbrev pub by_season : List (List ℕ) → Option ℕ → Option Season → MonthText
by_season ws number (Some season) = InSeason season
by_season ws number None = by_number ws number

abbrev pub by_month : List (List ℕ) → Option ℕ → Option Season → Option ℕ → MonthText
by_month ws number season (Some month) = InMonth month number
by_month ws number season None = by_season ws number season

-- the first month with the first number as its day, otherwise the first season, otherwise a number
-- alone
abbrev pub month_of : List (List ℕ) → MonthText
month_of ws =
    by_month ws (first_told short_number ws) (first_told (named_in seasons) ws)
    (first_told (named_in months) ws)

abbrev pub month_in : List ℕ → MonthText
month_in text = month_of (bare_words text)
