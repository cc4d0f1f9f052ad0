-- The texts of dates and of their years.
use Rattle.std.specs.Prelude.{◌≡◌, String, string_bytes, ℕ, ◌+◌, Bool, true, false, List, [], ◌∷◌, ◌++◌, if◌then◌else◌, Option, Some, None, ℤ, pos, ◌-ℤ◌, int_le, unsigned_abs, codes}
use Rattle.std.specs.Fmt.{signed_decimal}
use Rattle.std.specs.Int.{is_negative}
use Rattle.haya_time.specs.declared.date.Date.{Date}
use Rattle.haya_text.specs.Characters.{hyphen}
use Rattle.haya_time.specs.DateText.{tilde}
use Rattle.haya_time.specs.Padded.{padded_decimal}

-- the text has these bytes
abbrev pub HasText : {A : Type 0} → List ℕ → String A → Type 0
HasText bytes text = string_bytes text ≡ bytes

-- the sign or mark, if it is wanted
abbrev pub mark_text : Bool → ℕ → List ℕ
mark_text wanted c = if wanted then c ∷ [] else []

-- a year with its sign, in four digits at least
abbrev pub year_digits : ℤ → List ℕ
year_digits y = mark_text (is_negative y) hyphen ++ padded_decimal 4 (unsigned_abs y)

-- a month or a day, which is kept less one
abbrev pub part_text : ℕ → List ℕ
part_text n = hyphen ∷ padded_decimal 2 (n + 1)

-- a day is told with its month alone
abbrev pub parts_text : Option ℕ → Option ℕ → List ℕ
parts_text None day = []
parts_text (Some month) None = part_text month
parts_text (Some month) (Some day) = part_text month ++ part_text day

-- A date by ISO 8601, with a tilde before one that is approximate: YYYY, YYYY-MM or YYYY-MM-DD.
abbrev pub date_text : Date → List ℕ
date_text d = mark_text d.approximate tilde ++ (year_digits d.year ++ parts_text d.month d.day)

-- what stands behind a year before the year 1: in secular words or not, with periods or without
abbrev pub era_before : Bool → Bool → List ℕ
era_before true false = codes "BCE"
era_before true true = codes "B.C.E."
era_before false false = codes "BC"
era_before false true = codes "B.C."

-- what stands behind another year
abbrev pub era_behind : Bool → List ℕ
era_behind false = codes "CE"
era_behind true = codes "C.E."

-- what comes in front of another year
abbrev pub era_in_front : Bool → List ℕ
era_in_front false = codes "AD"
era_in_front true = codes "A.D."

abbrev pub designated_year : Bool → Bool → ℤ → List ℕ
designated_year periods in_front year =
    if in_front then era_in_front periods ++ codes " " ++ signed_decimal year
    else signed_decimal year ++ codes " " ++ era_behind periods

-- The year with its era, as readers count: the year before 1 is 1 BCE. A year from 1 on has its
-- era where that is wanted.
abbrev pub year_text : Bool → Bool → Bool → Bool → ℤ → List ℕ
year_text secular periods designate_positive ad_prefix year =
    if int_le year (pos 0) then
    signed_decimal (pos 1 -ℤ year) ++ codes " " ++ era_before secular periods
    else if designate_positive then designated_year periods ad_prefix year
    else signed_decimal year
