-- The text of pages from which they are read again.
use Rattle.std.specs.Prelude.{ℕ, Bool, true, false, ◌&&◌, List, [], ◌∷◌, ◌++◌, Option, None, Some, flat_map, if◌then◌else◌}
use Rattle.std.specs.Result.{result_ok}
use Rattle.std.specs.Str.{chars}
use Rattle.haya_text.specs.Characters.{comma, hyphen}
use Rattle.haya_numbers.specs.Characters.{ampersand}
use Rattle.haya_numbers.specs.Cuts.{backslash}
use Rattle.haya_numbers.specs.NumericPrinted.{en_dash_bytes}
use Rattle.haya_numbers.specs.NumericRoundTrip.{exact_text, same_numeric}
use Rattle.haya_numbers.specs.Pages.{PartView, Ampersand, Comma, EscapedRange, SinglePage, Range}
use Rattle.haya_numbers.specs.PagesPrinted.{shown_pages}
use Rattle.haya_numbers.specs.PagesReading.{pages_read}

-- A part, each number by its exact text. Nothing stands behind a comma; a hyphen that was escaped
-- is escaped again, and any other range has an en dash.
abbrev pub exact_part : PartView → List ℕ
exact_part Ampersand = ampersand ∷ []
exact_part Comma = comma ∷ []
exact_part (EscapedRange start end) = exact_text start ++ backslash ∷ hyphen ∷ exact_text end
exact_part (SinglePage page) = exact_text page
exact_part (Range start end) = exact_text start ++ (en_dash_bytes ++ exact_text end)

-- a text that reads as the pages, if any does
abbrev pub exact_pages : List PartView → List ℕ
exact_pages ps = flat_map exact_part ps

-- ---- equal pages, as a test

abbrev pub same_part : PartView → PartView → Bool
same_part Ampersand Ampersand = true
same_part Comma Comma = true
same_part (EscapedRange a b) (EscapedRange c d) = same_numeric a c && same_numeric b d
same_part (SinglePage a) (SinglePage b) = same_numeric a b
same_part (Range a b) (Range c d) = same_numeric a c && same_numeric b d
same_part _ _ = false

abbrev pub same_pages : List PartView → List PartView → Bool
same_pages [] [] = true
same_pages (p ∷ ps) (q ∷ qs) = same_part p q && same_pages ps qs
same_pages _ _ = false

-- ---- the text

-- whether a text reads as the pages
abbrev pub reads_as : List ℕ → List PartView → Bool
reads_as text ps = by (result_ok (pages_read (chars text)))
  where
    by : Option (List PartView) → Bool
    by None = false
    by (Some qs) = same_pages qs ps

-- `round_trip_text`: what is shown of the pages where that reads as them, otherwise the exact text
abbrev pub round_trip_text : List PartView → List ℕ
round_trip_text ps = if reads_as (shown_pages ps) ps then shown_pages ps else exact_pages ps
