use Rattle.std.proofs.Common.{◌≡◌, ◌∷◌, ◌++◌, map}
use Rattle.std.specs.Vec.Iter.{into_iter_items}
use Rattle.haya_questions.specs.Ranked.{ranked, boxed_ranks}
use Rattle.haya_questions.specs.SortText.{sort_key_view}
use Rattle.haya_questions.proofs.sorting.ranked_hits.Given as goal

-- what is kept so far and what is left are all
abbrev pub invariant-hits : goal.invariant-hits
invariant-hits l = record {
  hits : map (λ k. k.value.hit) l.kept.items ++ into_iter_items l.hit-iterator ≡ l.fn.hits.items;
  ranks :
      map boxed_ranks l.kept.items ++ map (ranked (map sort_key_view (l.first ∷ l.others))) (into_iter_items l.hit-iterator)
      ≡ map (ranked (map sort_key_view (l.first ∷ l.others))) l.fn.hits.items;
}
