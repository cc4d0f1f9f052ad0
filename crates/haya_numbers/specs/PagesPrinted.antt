-- The bytes that pages are printed as.
use Rattle.std.specs.Prelude.{ℕ, List, [], ◌∷◌, ◌++◌, flat_map}
use Rattle.haya_text.specs.Characters.{comma, hyphen}
use Rattle.haya_numbers.specs.Characters.{ampersand, blank}
use Rattle.haya_numbers.specs.Numeric.{NumericView}
use Rattle.haya_numbers.specs.NumericPrinted.{shown_numeric}
use Rattle.haya_numbers.specs.Pages.{PartView, Ampersand, Comma, EscapedRange, SinglePage, Range}

-- both ends of a range, with a hyphen between
abbrev pub shown_range : NumericView → NumericView → List ℕ
shown_range start end = shown_numeric start ++ hyphen ∷ shown_numeric end

abbrev pub shown_part : PartView → List ℕ
shown_part Ampersand = ampersand ∷ []
shown_part Comma = comma ∷ blank ∷ []
shown_part (EscapedRange start end) = shown_range start end
shown_part (SinglePage page) = shown_numeric page
shown_part (Range start end) = shown_range start end

-- the parts in order
abbrev pub shown_pages : List PartView → List ℕ
shown_pages ps = flat_map shown_part ps
