use Rattle.std.proofs.Common.{◌≡◌, length, map}
use Rattle.std.specs.Cmp.Lexicographic.{slice_cmp}
use Rattle.haya_questions.specs.Order.{rank_order}
use Rattle.haya_questions.specs.Ranked.{rank_view}
use Rattle.haya_questions.proofs.rank.cmp_lists.Given as goal

-- what is left has the order of the whole
abbrev pub invariant-values : goal.invariant-values
invariant-values l =
    slice_cmp rank_order (map rank_view l.left) (map rank_view l.right) ≡ slice_cmp rank_order (map rank_view l.fn.a) (map rank_view l.fn.b)

abbrev pub decreases-values : goal.decreases-values
decreases-values l = length l.left
