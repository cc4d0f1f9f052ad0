use Rattle.std.proofs.Common.{◌≡◌, drop, map}
use Rattle.haya_numbers.specs.Pages.{part_view}
use Rattle.haya_numbers.specs.PagesBack.{are_readable}
use Rattle.haya_numbers.proofs.ReadsBack.{goes_on}
use Rattle.haya_numbers.proofs.page.PageRanges.reads_back.Given as goal

-- the parts left decide
abbrev pub invariant-loop-part : goal.invariant-loop-part
invariant-loop-part l = goes_on l.wants_page (map part_view (drop l.part-index l.part-items)) ≡ are_readable (map part_view l.part-items)
