use Rattle.std.proofs.Common.{◌≡◌, ◌++◌, drop, map}
use Rattle.haya_questions.specs.Ranked.{rank_view, ranked}
use Rattle.haya_questions.specs.SortText.{sort_key_view}
use Rattle.haya_questions.proofs.sorting.hit_ranks.Given as goal

-- the lists so far and those of what is left are all
abbrev pub invariant-keys : goal.invariant-keys
invariant-keys l =
    map (λ ranks. map rank_view ranks.items) l.all.items ++ ranked (map sort_key_view (drop l.key-index l.keys)) l.hit
    ≡ ranked (map sort_key_view l.keys) l.hit
