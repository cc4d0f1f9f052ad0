use Rattle.std.proofs.Common.{◌≡◌, ◌∷◌, map, sym, ap, ◌∙◌, subst}
use Rattle.haya_questions.specs.Order.{hit_order}
use Rattle.haya_questions.specs.Ranked.{IsSortOf, boxed_ranks, ranked}
use Rattle.haya_questions.specs.SortText.{sort_key_view}
use Rattle.haya_questions.proofs.SortLemmas.{sort_of}
use Rattle.haya_questions.proofs.sorting.sorted_hits.Goals as goal

pub returns : goal.returns
returns c =
    let keys = map sort_key_view (c.args.first.now ∷ c.args.others.now) in
    let before = c.in_ok-kept.kept.items in
    let after = c.sort_ranked.new.kept.items in
    let same_hits = c.in_ok-kept.ensures.hits in
    let kept : map boxed_ranks before ≡ map (ranked keys) (map (λ k. k.value.hit) before) = c.in_ok-kept.ensures.ranks ∙ ap (map (ranked keys)) (sym same_hits) in
    let sort = sort_of keys before after kept c.sort_ranked.ensures.same c.in_ok-sort_ranked.ensures.sorted c.sort_ranked.ensures.stable in
    subst (λ xs. IsSortOf (hit_order keys) xs c.in_ok-hits_of.field-0.items) same_hits
    (subst (λ ys. IsSortOf (hit_order keys) (map (λ k. k.value.hit) before) ys) (sym c.in_ok-hits_of.ensures) sort)
