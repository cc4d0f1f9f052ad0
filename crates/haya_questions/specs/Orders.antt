-- How a value of a place stands to what a test wants: before, equal, after, or not comparable.
use Rattle.std.specs.Prelude.{ℕ, List, Option, None, Some, ℤ, option_and_then, option_map, slice_get}
use Rattle.std.specs.List.{filter_map}
use Rattle.std.specs.Ordering.{int_cmp, nat_cmp, partial_ordering_then}
use Rattle.std.specs.declared.cmp.Ordering.{Ordering}
use Rattle.std.specs.declared.cmp.Ordering.TheVariants.{Equal}
use Rattle.haya_numbers.specs.Numeric.{NumericView, numbers}
use Rattle.haya_numbers.specs.Pages.{PartView, part_start}
use Rattle.haya_time.specs.DurationOrder.{duration_cmp}
use Rattle.haya_time.specs.declared.date.Date.{Date}
use Rattle.haya_time.specs.declared.duration.Duration.{Duration}
use Rattle.haya_questions.specs.Value.{ValueView, DateValue, NumberValue, PagesValue, DurationValue, RangeValue}

-- What a test wants: a text, as it is compared; a date; a number; or a duration.
pub data WantedView : Type 0 where
  WantedText : List ℕ → WantedView
  WantedDate : Date → WantedView
  WantedNumber : ℤ → WantedView
  WantedDuration : Duration → WantedView

-- A month or a day of a date beside the one that is wanted. Where none is wanted they tie; where
-- one is wanted and the date has none, there is no answer.
abbrev pub part_against : Option ℕ → Option ℕ → Option Ordering
part_against mine None = Some Equal
part_against None (Some wanted) = None
part_against (Some mine) (Some wanted) = Some (nat_cmp mine wanted)

-- A date beside the one that is wanted: the first part that the wanted date has and in which they
-- differ decides, from the year on.
abbrev pub date_against : Date → Date → Option Ordering
date_against date wanted =
    partial_ordering_then (Some (int_cmp date.year wanted.year))
    (partial_ordering_then (part_against date.month wanted.month)
    (part_against date.day wanted.day))

-- the first of the numbers
abbrev pub first_number : NumericView → Option ℤ
first_number n = slice_get (numbers n.value) 0

-- the first page, or the start of the first range
abbrev pub first_page : List PartView → Option NumericView
first_page pages = slice_get (filter_map part_start pages) 0

-- a number beside the one that is wanted
abbrev pub number_against : NumericView → ℤ → Option Ordering
number_against n wanted = option_map (λ first. int_cmp first wanted) (first_number n)

abbrev pub pages_against : List PartView → ℤ → Option Ordering
pages_against pages wanted = option_and_then (λ n. number_against n wanted) (first_page pages)

-- A value beside what is wanted: dates, first numbers, first pages, durations, starts of ranges. A
-- value of another kind has no order, nor has a text in the place of a number or a time.
unfoldable pub value_against : ValueView → WantedView → Option Ordering
value_against (DateValue date) (WantedDate wanted) = date_against date wanted
value_against (NumberValue number) (WantedNumber wanted) = number_against number wanted
value_against (PagesValue pages) (WantedNumber wanted) = pages_against pages wanted
value_against (DurationValue duration) (WantedDuration wanted) =
    Some (duration_cmp duration wanted)
value_against (RangeValue range) (WantedDuration wanted) = Some (duration_cmp range.start wanted)
value_against value wanted = None
