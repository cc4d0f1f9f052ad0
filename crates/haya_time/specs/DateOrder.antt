-- The orders of dates.
use Rattle.std.specs.Prelude.{◌≡◌, ◌≢◌, ℕ, Bool, false, ◌⊎◌, if◌then◌else◌, Option, Some, None, is_some, is_none, IsSome, option_map}
use Rattle.std.specs.Option.{option_cmp}
use Rattle.std.specs.declared.cmp.Ordering.{Ordering}
use Rattle.std.specs.declared.cmp.Ordering.TheVariants.{Equal}
use Rattle.std.specs.Ordering.{nat_cmp, int_cmp, bool_cmp, on, then_cmp, as_partial_cmp, partial_ordering_then}
use Rattle.haya_time.specs.declared.date.Date.{Date}
use Rattle.haya_time.specs.declared.date.Season.{Season}
use Rattle.haya_time.specs.declared.date.Season.TheVariants.{Spring, Summer, Autumn, Winter}

-- the place of a season in the year
abbrev pub season_place : Season → ℕ
season_place Spring = 0
season_place Summer = 1
season_place Autumn = 2
season_place Winter = 3

-- a number that is missing stands first
abbrev pub missing_first_cmp : Option ℕ → Option ℕ → Ordering
missing_first_cmp = option_cmp nat_cmp

abbrev pub season_cmp : Option Season → Option Season → Ordering
season_cmp = on (option_map season_place) missing_first_cmp

-- two numbers that are there are compared, two that are missing tie, and one alone has no answer
abbrev pub known_alike_cmp : Option ℕ → Option ℕ → Option Ordering
known_alike_cmp None None = Some Equal
known_alike_cmp (Some m) (Some n) = Some (nat_cmp m n)
known_alike_cmp None (Some n) = None
known_alike_cmp (Some m) None = None

-- the day, where the month is known
abbrev pub day_of_month : Date → Option ℕ
day_of_month d = if is_some d.month then d.day else None

-- one partial order, and then another
abbrev pub then_partial : (Date → Date → Option Ordering) → (Date → Date → Option Ordering)
    → Date → Date → Option Ordering
then_partial C D x y = partial_ordering_then (C x y) (D x y)

-- how dates that tell the same day, month or year are ordered: exact ones first
abbrev pub tie_cmp : Date → Date → Ordering
tie_cmp =
    then_cmp (on (λ d. d.approximate) bool_cmp)
    (then_cmp (on (λ d. d.day) missing_first_cmp) (on (λ d. d.season) season_cmp))

-- By year, then by month, then by the day of the month, then by what breaks ties.
abbrev pub date_partial_cmp : Date → Date → Option Ordering
date_partial_cmp =
    then_partial (on (λ d. d.year) (as_partial_cmp int_cmp))
    (then_partial (on (λ d. d.month) known_alike_cmp)
    (then_partial (on day_of_month known_alike_cmp) (as_partial_cmp tie_cmp)))

-- whether the date is approximate, where this part of it is missing
abbrev pub approximate_without : Option ℕ → Date → Bool
approximate_without part d = if is_none part then d.approximate else false

-- By year, then by month, where a missing one stands first and two missing ones go by approximate;
-- then by day in the same way.
abbrev pub date_csl_cmp : Date → Date → Ordering
date_csl_cmp =
    then_cmp (on (λ d. d.year) int_cmp)
    (then_cmp (on (λ d. d.month) missing_first_cmp)
    (then_cmp (on (λ d. approximate_without d.month d) bool_cmp)
    (then_cmp (on (λ d. d.day) missing_first_cmp)
    (on (λ d. approximate_without d.day d) bool_cmp))))

-- one side alone has it
abbrev pub OneAlone : Option ℕ → Option ℕ → Type 0
OneAlone p q = is_some p ≢ is_some q

-- Two dates of one year of which one side alone has a month, or of one month of which
-- one side alone has a day.
abbrev pub HasNoOrder : Date → Date → Type 0
HasNoOrder x y =
    (x.year ≡ y.year)
    × (OneAlone x.month y.month ⊎ ((x.month ≡ y.month) × IsSome x.month × OneAlone x.day y.day))
