use Rattle.std.proofs.Common.{filter, map, ap, ◌∙◌, subst}
use Rattle.haya_questions.specs.Order.{hit_order}
use Rattle.haya_questions.specs.Ranked.{IsSortOf}
use Rattle.haya_questions.specs.SortText.{sort_key_view}
use Rattle.haya_questions.specs.Test.{test_view}
use Rattle.haya_asked.specs.Asked.{passes}
use Rattle.haya_asked.proofs.questions.Questions.asked_hits.Goals as goal

pub returns : goal.returns
returns c =
    let hits = c.args.hits.items in
    let sorted = c.in_ok-sorted.sorted.items in
    record {
      sorted = sorted;
      left = c.in_ok-left.left.items;
      sort = subst (λ keys. IsSortOf (hit_order (map sort_key_view keys)) (filter (passes (map test_view c.args.self.now.tests.items)) hits) sorted) c.as_slice-2.ensures.value
          (subst (λ passing. IsSortOf (hit_order (map sort_key_view c.as_slice-2.result.now)) passing sorted)
          (c.in_ok-passing.ensures ∙ ap (λ tests. filter (passes (map test_view tests)) hits) c.as_slice.ensures.value) c.in_ok-sorted.ensures);
      repeats = c.in_ok-left.ensures;
      first = c.at_most.ensures;
    }
