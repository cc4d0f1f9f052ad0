use Rattle.std.proofs.Common.{◌≡◌, ◌++◌, drop, map}
use Rattle.haya_questions.specs.Order.{rank_of}
use Rattle.haya_questions.specs.Ranked.{rank_view}
use Rattle.haya_questions.specs.Value.{value_view}
use Rattle.haya_questions.proofs.rank.ranks_of.Given as goal

-- the ranks so far and those of what is left are all
abbrev pub invariant-values : goal.invariant-values
invariant-values l =
    map rank_view l.ranks.items ++ map rank_of (map value_view (drop l.value-index l.values)) ≡ map rank_of (map value_view l.values)
