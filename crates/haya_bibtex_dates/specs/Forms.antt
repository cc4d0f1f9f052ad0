-- Dates in extended date format.
use Rattle.std.specs.Prelude.{ℕ, suc, ◌+◌, ◌*◌, ◌==◌, ◌&&◌, ◌||◌, ℤ, Bool, true, false, List, [], ◌∷◌, drop, take, if◌then◌else◌, is_some, Option, None, Some, option_map}
use Rattle.std.specs.List.{position}
use Rattle.haya_time.specs.declared.date.Date.{Date}
use Rattle.haya_bibtex_dates.specs.Calendar.{date_by, marked, with_sign}
use Rattle.haya_bibtex_dates.specs.Clock.{is_rest}
use Rattle.haya_bibtex_dates.specs.Digits.{behind_sign, digit, hundreds, tens, two_digits}
use Rattle.haya_bibtex_dates.specs.declared.calendar.Part.{Part}
use Rattle.haya_bibtex_dates.specs.declared.calendar.Part.TheVariants.{Missing, Unknown, Number}

-- ---- years

-- the last two digits of a year: `XX` is the first year of the century, `5X` that of the decade
abbrev pub year_end : ℕ → ℕ → Option ℕ
year_end c d =
    if d == 88 then (if c == 88 then Some 0 else tens (digit c) (Some 0)) else two_digits c d

abbrev pub with_rest : {X : Type 0} → List ℕ → X → X × List ℕ
with_rest rest x = (x, rest)

-- a year of four digits at the front of a text, and what follows
abbrev pub year_at : List ℕ → Option (ℕ × List ℕ)
year_at (a ∷ b ∷ c ∷ d ∷ rest) =
    option_map (with_rest rest) (hundreds (two_digits a b) (year_end c d))
year_at text = None

-- ---- months and days

-- a number whose first digit has this value, and what follows
abbrev pub number_by : ℕ → Option ℕ → ℕ → List ℕ → Part × List ℕ
number_by n None c cs = (Number n, c ∷ cs)
number_by n (Some m) c cs = (Number (n * 10 + m), cs)

abbrev pub number_behind : Option ℕ → List ℕ → Option (Part × List ℕ)
number_behind None text = None
number_behind (Some n) [] = Some (Number n, [])
number_behind (Some n) (c ∷ cs) = Some (number_by n (digit c) c cs)

abbrev pub unknown_by : Option (List ℕ) → Option (Part × List ℕ)
unknown_by None = None
unknown_by (Some rest) = Some (Unknown, rest)

-- a month or a day behind its hyphen: one digit, two, or `XX`
abbrev pub part_behind : List ℕ → Option (Part × List ℕ)
part_behind [] = None
part_behind (c ∷ cs) =
    if c == 88 then unknown_by (behind_sign 88 cs) else number_behind (digit c) cs

abbrev pub part_by : List ℕ → Option (List ℕ) → Option (Part × List ℕ)
part_by text None = Some (Missing, text)
part_by text (Some rest) = part_behind rest

-- a month or a day, if one follows, and what is behind it
abbrev pub part_at : List ℕ → Option (Part × List ℕ)
part_at text = part_by text (behind_sign 45 text)

-- ---- dates

-- whether a sign follows that makes a date approximate; a question mark doesn't
abbrev pub mark_at : List ℕ → Bool × List ℕ
mark_at [] = (false, [])
mark_at (c ∷ cs) =
    if (c == 126) || (c == 37) then (true, cs)
    else if c == 63 then (false, cs)
    else (false, c ∷ cs)

abbrev pub date_before : ℤ → Part → Part → Bool × List ℕ → Option Date
date_before year month day m =
    if is_rest m.1 then option_map (marked m.0) (date_by year month day) else None

abbrev pub behind_month : ℤ → Part → Option (Part × List ℕ) → Option Date
behind_month year month None = None
behind_month year month (Some p) = date_before year month p.0 (mark_at p.1)

abbrev pub behind_year : ℤ → Option (Part × List ℕ) → Option Date
behind_year year None = None
behind_year year (Some p) = behind_month year p.0 (part_at p.1)

abbrev pub signed_date : Bool → Option (ℕ × List ℕ) → Option Date
signed_date negative None = None
signed_date negative (Some p) = behind_year (with_sign negative p.0) (part_at p.1)

abbrev pub date_behind : List ℕ → Option (List ℕ) → Option Date
date_behind text None = signed_date false (year_at text)
date_behind text (Some rest) = signed_date true (year_at rest)

-- one date
abbrev pub single_date : List ℕ → Option Date
single_date text = date_behind text (behind_sign 45 text)

-- ---- two dates

-- an end that tells no date: nothing, `..`, `open` or `unknown`
abbrev pub is_open : List ℕ → Bool
is_open [] = true
is_open (a ∷ b ∷ []) = (a == 46) && (b == 46)
is_open (a ∷ b ∷ c ∷ d ∷ []) = (a == 111) && (b == 112) && (c == 101) && (d == 110)
is_open (a ∷ b ∷ c ∷ d ∷ e ∷ f ∷ g ∷ []) =
    (a == 117) && (b == 110) && (c == 107) && (d == 110) && (e == 111) && (f == 119) && (g == 110)
is_open text = false

abbrev pub is_slash : ℕ → Bool
is_slash c = c == 47

-- what is before the first slash, and behind it
abbrev pub ends : List ℕ → Option (List ℕ × List ℕ)
ends text = option_map (λ n. (take n text, drop (suc n) text)) (position is_slash text)

-- the first of two dates that is told
abbrev pub date_of_ends : List ℕ → Option (List ℕ × List ℕ) → Option Date
date_of_ends text None = single_date text
date_of_ends text (Some p) =
    if is_open p.0 then single_date p.1
    else if is_open p.1 || is_some (single_date p.1) then single_date p.0
    else None

-- the date of a text
abbrev pub date_in : List ℕ → Option Date
date_in text = date_of_ends text (ends text)
