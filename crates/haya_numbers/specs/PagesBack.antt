-- Which pages read back from their print.
use Rattle.std.specs.Prelude.{ℕ, ℤ, pos, negsuc, ◌&&◌, ◌==◌, ◌^◌, nat_lt, not, Bool, true, false, List, [], ◌∷◌, Option, None, Some}
use Rattle.std.specs.List.{list_all}
use Rattle.std.specs.Str.{chars}
use Rattle.haya_numbers.specs.Cuts.{backslash}
use Rattle.haya_numbers.specs.Numeric.{NumericView, single_number}
use Rattle.haya_numbers.specs.Pages.{PartView, Ampersand, Comma, EscapedRange, SinglePage, Range}

-- one number from 0 on
abbrev pub is_page_number : Option ℤ → Bool
is_page_number None = false
is_page_number (Some (pos n)) = nat_lt n (2 ^ 31)
is_page_number (Some (negsuc n)) = false

-- the same without affixes
abbrev pub is_plain_number : NumericView → Bool
is_plain_number n = is_page_number (single_number n)

-- a page or a plain range of such numbers
abbrev pub is_plain_part : PartView → Bool
is_plain_part Ampersand = false
is_plain_part Comma = false
is_plain_part (EscapedRange start end) = false
is_plain_part (SinglePage page) = is_plain_number page
is_plain_part (Range start end) = is_plain_number start && is_plain_number end

abbrev pub is_separator_part : PartView → Bool
is_separator_part Ampersand = true
is_separator_part Comma = true
is_separator_part (EscapedRange start end) = false
is_separator_part (SinglePage page) = false
is_separator_part (Range start end) = false

-- whether a part may stand where a page or a range is wanted, or a separator
abbrev pub fits : Bool → PartView → Bool
fits true p = is_plain_part p
fits false p = is_separator_part p

-- pages and ranges, with one separator between two
abbrev pub are_readable : List PartView → Bool
are_readable [] = false
are_readable (p ∷ []) = is_plain_part p
are_readable (p ∷ s ∷ ps) = is_plain_part p && is_separator_part s && are_readable ps

-- ---- pages that were read from a text

-- the last character, if there is one, is this
abbrev pub ends_in : ℕ → List ℕ → Bool
ends_in last [] = false
ends_in last (c ∷ []) = c == last
ends_in last (c ∷ d ∷ cs) = ends_in last (d ∷ cs)

abbrev pub suffix_ends_in : ℕ → Option (List ℕ) → Bool
suffix_ends_in last None = false
suffix_ends_in last (Some suffix) = ends_in last (chars suffix)

-- one number alone is from 0 on
abbrev pub is_from_zero : Option ℤ → Bool
is_from_zero None = true
is_from_zero (Some (pos n)) = true
is_from_zero (Some (negsuc n)) = false

-- no hyphen is escaped, in the text or by what is shown before it, and no page is below 0
abbrev pub part_is_kept : PartView → Bool
part_is_kept Ampersand = true
part_is_kept Comma = true
part_is_kept (EscapedRange start end) = false
part_is_kept (SinglePage page) = is_from_zero (single_number page)
part_is_kept (Range start end) = not (suffix_ends_in backslash start.suffix)

-- a page or a range comes behind each comma
abbrev pub commas_are_kept : List PartView → Bool
commas_are_kept [] = true
commas_are_kept (Comma ∷ []) = false
commas_are_kept (Comma ∷ p ∷ ps) = not (is_separator_part p) && commas_are_kept (p ∷ ps)
commas_are_kept (Ampersand ∷ ps) = commas_are_kept ps
commas_are_kept (EscapedRange start end ∷ ps) = commas_are_kept ps
commas_are_kept (SinglePage page ∷ ps) = commas_are_kept ps
commas_are_kept (Range start end ∷ ps) = commas_are_kept ps

-- pages that were read from a text, or from a number, are kept by their print
abbrev pub are_kept : List PartView → Bool
are_kept ps = list_all part_is_kept ps && commas_are_kept ps
