-- The dates and the numbers of an entry.
use Rattle.std.specs.Prelude.{ℕ, ℤ, List, [], ◌∷◌, Option, None, codes, option_and_then, option_map, unwrap_or}
use Rattle.std.specs.List.{filter_map}
use Rattle.std.specs.Map.{lookup}
use Rattle.std.specs.Str.{bytes_eq}
use Rattle.haya_entry.specs.Tree.{Tree, fields}
use Rattle.haya_numbers.specs.Numeric.{NumericView, single_number}
use Rattle.haya_numbers.specs.Pages.{PartView, part_end, part_start}
use Rattle.haya_time.specs.declared.date.Date.{Date}
use Rattle.haya_values.specs.MaybeTyped.{TypedOrText, Typed, Text}

-- ---- dates

-- each name that a field has a date by: of an address it is that of the visit
abbrev pub dates_table : Tree → List (List ℕ × Option Date)
dates_table t =
    (codes "date", (fields t).date)
    ∷ (codes "url", option_and_then (λ u. u.visit_date) (fields t).url)
    ∷ []

abbrev pub field_date : Tree → List ℕ → Option Date
field_date t name = unwrap_or (lookup (bytes_eq name) (dates_table t)) None

-- ---- numbers

-- the number that a typed value is, if it is one alone; a text is none
abbrev pub typed_number : TypedOrText NumericView → Option ℤ
typed_number (Typed n) = single_number n
typed_number (Text text) = None

-- each name that a field has numbers by: where the field is set, its number, if it is one alone
abbrev pub numbers_table : Tree → List (List ℕ × Option (Option ℤ))
numbers_table t =
    (codes "issue", option_map typed_number (fields t).issue)
    ∷ (codes "chapter", option_map typed_number (fields t).chapter)
    ∷ (codes "volume", option_map typed_number (fields t).volume)
    ∷ (codes "edition", option_map typed_number (fields t).edition)
    ∷ (codes "volume-total", option_map single_number (fields t).volume_total)
    ∷ (codes "page-total", option_map single_number (fields t).page_total)
    ∷ []

abbrev pub field_number : Tree → List ℕ → Option (Option ℤ)
field_number t name = unwrap_or (lookup (bytes_eq name) (numbers_table t)) None

-- ---- pages

-- two numbers, if both are there
abbrev pub both : Option ℤ → Option ℤ → Option (ℤ × ℤ)
both first last = option_and_then (λ a. option_map (λ b. (a, b)) last) first

-- the first and the last page of a part that isn't a separator, if they are numbers alone
abbrev pub pages_of : PartView → Option (Option (ℤ × ℤ))
pages_of part = option_map (λ first.
    both (single_number first) (single_number (unwrap_or (part_end part) first))) (part_start part)

abbrev pub typed_pages : TypedOrText (List PartView) → List (Option (ℤ × ℤ))
typed_pages (Typed parts) = filter_map pages_of parts
typed_pages (Text text) = []

-- the pages and the ranges of pages, in order
abbrev pub page_ranges : Tree → List (Option (ℤ × ℤ))
page_ranges t = unwrap_or (option_map typed_pages (fields t).page_range) []
