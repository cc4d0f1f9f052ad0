-- Persons, dates and numbers of an entry.
use Rattle.std.specs.Prelude.{◌≡◌, ◌⊎◌, ◌==◌, ◌+◌, ◌-◌, ◌^◌, ℕ, ℤ, List, Option, None, Some, if◌then◌else◌, length, min, option_map, slice_get}
use Rattle.std.specs.Str.{IsUtf8}
use Rattle.haya_entry.specs.Tree.{Tree}
use Rattle.haya_time.specs.declared.date.Date.{Date}
use Rattle.haya_time.specs.declared.date.Season.{Season}
use Rattle.haya_time.specs.declared.date.Season.TheVariants as season
use Rattle.haya_views.specs.Numbers.{field_date, field_number, page_ranges}
use Rattle.haya_views.specs.Persons.{CreditView, credits}
use Rattle.hayagriva_c.specs.Asking.{IsWritten, Leaves}
use Rattle.hayagriva_c.specs.declared.values.DateParts.{DateParts}
use Rattle.hayagriva_c.specs.declared.values.Pages.{Pages}

-- ---- persons

-- how many persons a field has; no name that isn't UTF-8 is a field's
abbrev pub PersonsAre : Option Tree → List ℕ → ℕ → Type 0
PersonsAre None name n = n ≡ 0
PersonsAre (Some t) name n =
    (IsUtf8 name × (n ≡ min (length (credits t name)) (2 ^ 64 - 1))) ⊎ (¬ IsUtf8 name × (n ≡ 0))

-- the text of a part of a person, by the part's number
abbrev pub part_text : CreditView → ℕ → Option (List ℕ)
part_text c part =
    if part == 0 then Some c.person.name else
    if part == 1 then c.person.given_name else
    if part == 2 then c.person.prefix else
    if part == 3 then c.person.suffix else
    if part == 4 then c.person.alias else
    if part == 5 then c.role else None

-- the part is written, or the person doesn't have it
abbrev pub PartGives : Option (List ℕ) → ℕ → ℕ → List ℕ → List ℕ → Type 0
PartGives None code len old new = Leaves 10 code len old new
PartGives (Some text) code len old new = IsWritten text code len old new

-- so of the person at a place, or there is no such person
abbrev pub CreditGives : Option CreditView → ℕ → ℕ → ℕ → List ℕ → List ℕ → Type 0
CreditGives None part code len old new = Leaves 3 code len old new
CreditGives (Some c) part code len old new = PartGives (part_text c part) code len old new

abbrev pub PersonGives : Option Tree → List ℕ → ℕ → ℕ → ℕ → ℕ → List ℕ → List ℕ → Type 0
PersonGives None name place part code len old new = Leaves 2 code len old new
PersonGives (Some t) name place part code len old new =
    (IsUtf8 name × CreditGives (slice_get (credits t name) place) part code len old new)
    ⊎ (¬ IsUtf8 name × Leaves 3 code len old new)

-- ---- values

-- the value is given, or the code alone
abbrev pub Gives : {V : Type 0} → ℕ → Option V → ℕ → V → V → Type 0
Gives c None code old new = (code ≡ c) × (new ≡ old)
Gives c (Some value) code old new = (code ≡ 0) × (new ≡ value)

-- so of a field's value, which may be in no form that is given
abbrev pub GivesIf : {V : Type 0} → Option (Option V) → ℕ → V → V → Type 0
GivesIf None code old new = (code ≡ 3) × (new ≡ old)
GivesIf (Some value) code old new = Gives 11 value code old new

-- ---- dates

-- a month or a day from 1 on, 0 where there is none
abbrev pub from_one : Option ℕ → ℕ
from_one None = 0
from_one (Some n) = n + 1

abbrev pub season_number : Option Season → ℕ
season_number None = 0
season_number (Some season.Spring) = 1
season_number (Some season.Summer) = 2
season_number (Some season.Autumn) = 3
season_number (Some season.Winter) = 4

abbrev pub date_parts : Date → DateParts
date_parts d = record {
  year = d.year;
  month = from_one d.month;
  day = from_one d.day;
  season = season_number d.season;
  approximate = d.approximate;
}

abbrev pub DateGives : Option Tree → List ℕ → ℕ → DateParts → DateParts → Type 0
DateGives None name code old new = (code ≡ 2) × (new ≡ old)
DateGives (Some t) name code old new =
    (IsUtf8 name × Gives 3 (option_map date_parts (field_date t name)) code old new)
    ⊎ (¬ IsUtf8 name × ((code ≡ 3) × (new ≡ old)))

-- ---- numbers

abbrev pub NumberGives : Option Tree → List ℕ → ℕ → ℤ → ℤ → Type 0
NumberGives None name code old new = (code ≡ 2) × (new ≡ old)
NumberGives (Some t) name code old new =
    (IsUtf8 name × GivesIf (field_number t name) code old new)
    ⊎ (¬ IsUtf8 name × ((code ≡ 3) × (new ≡ old)))

-- ---- pages

abbrev pub count_of_ranges : Option Tree → ℕ
count_of_ranges None = 0
count_of_ranges (Some t) = length (page_ranges t)

abbrev pub pages_from : ℤ × ℤ → Pages
pages_from range = record { first = range.0; last = range.1 }

abbrev pub PagesGive : Option Tree → ℕ → ℕ → Pages → Pages → Type 0
PagesGive None place code old new = (code ≡ 2) × (new ≡ old)
PagesGive (Some t) place code old new =
    GivesIf (option_map (option_map pages_from) (slice_get (page_ranges t) place)) code old new
