use Rattle.std.proofs.Common.{rules, is_lt}
use Rattle.std.specs.Cmp.{nat_cmp_total}
use Rattle.std.specs.Cmp.Lexicographic.{options_total}
use Rattle.std.specs.Option.{option_cmp}
use Rattle.std.specs.Ordering.{nat_cmp, on}
use Rattle.std.proofs.lemmas.List.Sorted.{ranks_by}
use Rattle.std.proofs.lemmas.Fn.{always_returns_same}
use Rattle.haya_asked.proofs.duplicates.sort_placed.Goals as goal

pub returns-clause-sorted : goal.returns-clause-sorted
returns-clause-sorted c =
    c.in_ok-sort_by.ensures.sorted (λ a b. is_lt (on (λ p. p.first) (option_cmp nat_cmp) a b)) (ranks_by (options_total nat_cmp_total) (λ p. p.first)) (always_returns_same _ _ _ (λ a r f k. search rules))

pub returns-clause-stable : goal.returns-clause-stable
returns-clause-stable c =
    c.sort_by.ensures.stable (λ a b. is_lt (on (λ p. p.first) (option_cmp nat_cmp) a b)) (ranks_by (options_total nat_cmp_total) (λ p. p.first)) (always_returns_same _ _ _ (λ a r f k. search rules))
