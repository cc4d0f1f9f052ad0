-- Pages by value.
use Rattle.std.specs.Prelude.{ℤ, FitsSigned, ◌≢◌, ◌<◌, ◌⊎◌, Bool, true, false, List, length, map, Any, Option, None, Some, IsSomeAnd}
use Rattle.std.specs.Int.{w32}
use Rattle.std.specs.List.{filter_map}
use Rattle.haya_numbers.specs.Numeric.{NumericView, Single, numeric_view, without_affixes}
use Rattle.haya_numbers.specs.declared.numeric.NumericError.{NumericError}
use Rattle.haya_numbers.specs.declared.numeric.NumericError.TheVariants as number
use Rattle.haya_numbers.specs.declared.page.PageRanges.{PageRanges}
use Rattle.haya_numbers.specs.declared.page.PageRangesPart.{PageRangesPart}
use Rattle.haya_numbers.specs.declared.page.PageRangesPart.TheVariants as part
use Rattle.haya_numbers.specs.declared.page.PageRangesPartErr.{PageRangesPartErr}
use Rattle.haya_numbers.specs.declared.page.PageRangesPartErr.TheVariants as fault

-- a separator, a page, or a range
pub data PartView : Type 0 where
  Ampersand : PartView
  Comma : PartView
  EscapedRange : NumericView → NumericView → PartView
  SinglePage : NumericView → PartView
  Range : NumericView → NumericView → PartView

abbrev pub part_view : PageRangesPart → PartView
part_view part.Ampersand = Ampersand
part_view part.Comma = Comma
part_view (part.EscapedRange start end) = EscapedRange (numeric_view start) (numeric_view end)
part_view (part.SinglePage page) = SinglePage (numeric_view page)
part_view (part.Range start end) = Range (numeric_view start) (numeric_view end)

-- the parts of a list of pages, in order
abbrev pub parts : PageRanges → List PartView
parts pages = map part_view pages.ranges.items

-- the page of a number
abbrev pub page_of : ℤ → PartView
page_of n = SinglePage (without_affixes (Single n))

-- the number is an `i32`
abbrev pub FitsPage : ℤ → Type 0
FitsPage n = FitsSigned w32 n

-- the page, or the start of the range
abbrev pub part_start : PartView → Option NumericView
part_start Ampersand = None
part_start Comma = None
part_start (EscapedRange start end) = Some start
part_start (SinglePage page) = Some page
part_start (Range start end) = Some start

-- the end of the range
abbrev pub part_end : PartView → Option NumericView
part_end Ampersand = None
part_end Comma = None
part_end (EscapedRange start end) = Some end
part_end (SinglePage page) = None
part_end (Range start end) = Some end

-- it has an end that is not its start
abbrev pub HasTwoEnds : PartView → Type 0
HasTwoEnds p = IsSomeAnd (part_end p) (λ end. part_start p ≢ Some end)

-- a range has two ends, or there are two pages or ranges
abbrev pub ArePlural : List PartView → Type 0
ArePlural ps = Any HasTwoEnds ps ⊎ (1 < length (filter_map part_start ps))

-- the fault of a part in which a number has this fault
abbrev pub fault_of : NumericError → PageRangesPartErr
fault_of number.OutOfMemory = fault.OutOfMemory
fault_of e = fault.NumericErr e

-- the fault that says nothing of the text
abbrev pub is_part_memory : PageRangesPartErr → Bool
is_part_memory fault.OutOfMemory = true
is_part_memory (fault.NumericErr number.OutOfMemory) = true
is_part_memory _ = false
