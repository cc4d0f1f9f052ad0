use Rattle.std.proofs.Common.{◌≡◌, ◌≤◌, ◌+◌, drop, length, map}
use Rattle.std.specs.List.{filter_map}
use Rattle.haya_numbers.specs.Pages.{part_view}
use Rattle.haya_views.specs.Numbers.{pages_of}
use Rattle.haya_views.proofs.field_numbers.ranges_in.Given as goal

-- those so far and those that are left are all
abbrev pub invariant-parts : goal.invariant-parts
invariant-parts l =
    (l.number ≤ l.part-index)
    × (l.number + length (filter_map pages_of (drop l.part-index (map part_view l.pages.ranges.items)))
    ≡ length (filter_map pages_of (map part_view l.pages.ranges.items)))
