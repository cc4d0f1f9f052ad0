-- Each member of a date is read, or told.
use Rattle.std.specs.Prelude.{◌≡◌, ◌⊎◌, ℕ, true, false, List, Option, None, Some, codes, option_and_then, IfSome, IsSomeAnd, IsTrue, MatchOption, ⊤}
use Rattle.json.specs.Json as json
use Rattle.json.specs.Json.{Json, Members}
use Rattle.json.specs.Find.{at, is_null}
use Rattle.haya_time.specs.declared.date.Date.{Date}
use Rattle.haya_time.specs.declared.date.Season.{Season}
use Rattle.haya_json.specs.Parts.{text_in}
use Rattle.haya_csl.specs.DateNumbers.{unless_zero}
use Rattle.haya_csl.specs.DateTexts.{plain}
use Rattle.haya_csl.specs.Dates.{date_said, part_at, reader_of, season_read, truth_in}
use Rattle.haya_csl.specs.ReadOrTold.{IsTold, LeavesNone}
use Rattle.haya_csl.specs.declared.dates.calendar.Part.TheVariants.{Missing}

-- ---- what a date says

-- the date says all that this part of it says: the year, the month and the day; its season, where
-- it has one; and that it is approximate, where it is
pub record SaysAll (part whole : Date) : Type 0 where
  pub year : whole.year ≡ part.year
  pub month : whole.month ≡ part.month
  pub day : whole.day ≡ part.day
  pub season : IfSome part.season (λ s. whole.season ≡ Some s)
  pub approximate : part.approximate ≡ true → whole.approximate ≡ true

-- the season of a value
abbrev pub season_in : Json → Option Season
season_in j = option_and_then (λ text. season_read (plain text)) (text_in j)

-- the date has what a member says, under the name of the whole date: all of the date that the
-- member alone says, the season, or that it is approximate
abbrev pub HasDatePart : List ℕ → List ℕ → Json → Date → Type 0
HasDatePart of name j d =
    IsSomeAnd (reader_of name of None j).value (λ part. SaysAll part d)
    ⊎ (((name ≡ codes "season") × IsSomeAnd (season_in j) (λ s. d.season ≡ Some s))
    ⊎ ((name ≡ codes "circa") × ((truth_in j ≡ Some true) × (d.approximate ≡ true))))

-- ---- members that say nothing

-- null, or parts that are missing
abbrev pub HasNoParts : Json → Type 0
HasNoParts json.null = ⊤
HasNoParts (json.array parts) =
    (part_at 0 (json.array parts) ≡ Missing)
    × ((unless_zero (part_at 1 (json.array parts)) ≡ Missing)
    × (unless_zero (part_at 2 (json.array parts)) ≡ Missing))
HasNoParts _ = ⊥

-- a list that is empty, or whose first date has no parts
abbrev pub HasNoDate : Json → Type 0
HasNoDate (json.array dates) = MatchOption (at 0 (json.array dates)) ⊤ HasNoParts
HasNoDate _ = ⊥

-- such a list, an empty text, or what says that a date isn't approximate
abbrev pub SaysNoDatePart : List ℕ → Json → Type 0
SaysNoDatePart name j =
    ((name ≡ codes "date-parts") × HasNoDate j)
    ⊎ (LeavesNone (λ text. text) j ⊎ ((name ≡ codes "circa") × (truth_in j ≡ Some false)))

-- ---- the members of a date

-- A member of a date is as if it weren't there, or the date has what it says, or it is told.
abbrev pub DatePartIsReadOrTold : List ℕ → Members → List ℕ → Json → Type 0
DatePartIsReadOrTold of ms name j =
    let said = date_said of (json.object ms) in
    IsTrue (is_null j)
    ⊎ (SaysNoDatePart name j
    ⊎ (IsSomeAnd said.value (HasDatePart of name j) ⊎ IsTold name said.lost))
