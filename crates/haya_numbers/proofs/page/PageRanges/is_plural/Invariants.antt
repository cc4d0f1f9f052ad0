use Rattle.std.proofs.Common.{◌≡◌, ◌-◌, ◌^◌, All, length, map, min, take}
use Rattle.std.specs.List.{filter_map}
use Rattle.haya_numbers.specs.Pages.{part_start, part_view, HasTwoEnds}
use Rattle.haya_numbers.proofs.page.PageRanges.is_plural.Given as goal

-- no range so far has two ends, and so many parts have a start
abbrev pub invariant-loop-part : goal.invariant-loop-part
invariant-loop-part l = record {
  single : All (λ p. HasTwoEnds p → ⊥) (map part_view (take l.part-index l.part-items));
  starts : l.count ≡ min (length (filter_map part_start (map part_view (take l.part-index l.part-items)))) (2 ^ 64 - 1);
}
