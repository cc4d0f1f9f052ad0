use Rattle.std.proofs.Common.{◌≡◌, length, map}
use Rattle.haya_numbers.specs.Pages.{part_view, parts}
use Rattle.haya_numbers.specs.PagesOrder.{pages_order}
use Rattle.haya_numbers.proofs.page.PageRanges.csl_cmp.Given as goal

-- what is left has the order of the whole
abbrev pub invariant-parts : goal.invariant-parts
invariant-parts l = pages_order (map part_view l.left) (map part_view l.right) ≡ pages_order (parts l.fn.self) (parts l.fn.other)

abbrev pub decreases-parts : goal.decreases-parts
decreases-parts l = length l.left
