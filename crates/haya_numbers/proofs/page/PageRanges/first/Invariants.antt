use Rattle.std.proofs.Common.{◌≡◌, [], map, take}
use Rattle.std.specs.List.{filter_map}
use Rattle.haya_numbers.specs.Pages.{part_start, part_view}
use Rattle.haya_numbers.proofs.page.PageRanges.first.Given as goal

-- no part so far has a start
abbrev pub invariant-loop-part : goal.invariant-loop-part
invariant-loop-part l = filter_map part_start (map part_view (take l.part-index l.part-items)) ≡ []
