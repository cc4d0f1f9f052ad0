use Rattle.std.proofs.Common.{◌≡◌, drop, map, slice_get}
use Rattle.std.specs.List.{filter_map}
use Rattle.haya_numbers.specs.Pages.{part_view}
use Rattle.haya_views.specs.Numbers.{pages_of}
use Rattle.haya_views.proofs.field_numbers.range_at.Given as goal

-- what is asked is so far behind in the parts that are left
abbrev pub invariant-parts : goal.invariant-parts
invariant-parts l =
    slice_get (filter_map pages_of (map part_view l.pages.ranges.items)) l.place
    ≡ slice_get (filter_map pages_of (drop l.part-index (map part_view l.pages.ranges.items))) l.left
