-- The order of pages.
use Rattle.std.specs.Prelude.{ℕ, List}
use Rattle.std.specs.Cmp.Lexicographic.{slice_cmp}
use Rattle.std.specs.Option.{option_cmp}
use Rattle.std.specs.Ordering.{nat_cmp, ordering_then}
use Rattle.std.specs.declared.cmp.Ordering.{Ordering}
use Rattle.haya_numbers.specs.Numeric.{csl_order}
use Rattle.haya_numbers.specs.Pages.{PartView, Ampersand, Comma, EscapedRange, SinglePage, Range, part_end, part_start}

-- the place of a part's kind
abbrev pub kind_place : PartView → ℕ
kind_place Ampersand = 0
kind_place Comma = 1
kind_place (SinglePage page) = 2
kind_place (EscapedRange start end) = 3
kind_place (Range start end) = 4

-- by kind, then start, then end
abbrev pub part_order : PartView → PartView → Ordering
part_order a b =
    ordering_then (nat_cmp (kind_place a) (kind_place b))
    (ordering_then (option_cmp csl_order (part_start a) (part_start b))
    (option_cmp csl_order (part_end a) (part_end b)))

-- by the first parts that differ; the shorter of two that begin alike is first
abbrev pub pages_order : List PartView → List PartView → Ordering
pages_order ps qs = slice_cmp part_order ps qs
