use Rattle.std.proofs.Common.{◌∷◌, rules, is_lt}
use Rattle.std.specs.Ordering.{on}
use Rattle.std.proofs.lemmas.List.Sorted.{ranks_by}
use Rattle.std.proofs.lemmas.Fn.{always_returns_same}
use Rattle.haya_questions.specs.Ranked.{directions, ranked_order, boxed_ranks}
use Rattle.haya_questions.proofs.Totals.{ranked_total}
use Rattle.haya_questions.proofs.sorting.sort_ranked.Goals as goal

pub returns-clause-sorted : goal.returns-clause-sorted
returns-clause-sorted c =
    let ways = directions (c.args.first.now ∷ c.args.others.now) in
    c.in_ok-sort_by.ensures.sorted (λ a b. is_lt (on boxed_ranks (ranked_order ways) a b)) (ranks_by (ranked_total ways) boxed_ranks) (always_returns_same _ _ _ (λ a r f k. search rules))

pub returns-clause-stable : goal.returns-clause-stable
returns-clause-stable c =
    let ways = directions (c.args.first.now ∷ c.args.others.now) in
    c.sort_by.ensures.stable (λ a b. is_lt (on boxed_ranks (ranked_order ways) a b)) (ranks_by (ranked_total ways) boxed_ranks) (always_returns_same _ _ _ (λ a r f k. search rules))
