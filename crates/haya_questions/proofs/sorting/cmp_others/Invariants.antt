use Rattle.std.proofs.Common.{◌≡◌, drop, map}
use Rattle.haya_questions.specs.Ranked.{directions, rank_view, ranked_order}
use Rattle.haya_questions.proofs.sorting.cmp_others.Given as goal

-- what is left has the order of the whole
abbrev pub invariant-keys : goal.invariant-keys
invariant-keys l =
    ranked_order (directions (drop l.key-index l.keys)) (map (λ ranks. map rank_view ranks.items) l.left) (map (λ ranks. map rank_view ranks.items) l.right)
    ≡ ranked_order (directions l.keys) (map (λ ranks. map rank_view ranks.items) l.fn.a) (map (λ ranks. map rank_view ranks.items) l.fn.b)
