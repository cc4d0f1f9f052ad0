use Rattle.std.proofs.Common.{◌≡◌, ◌++◌, filter, map}
use Rattle.std.specs.Vec.Iter.{into_iter_items}
use Rattle.haya_questions.specs.Test.{test_view}
use Rattle.haya_asked.specs.Asked.{passes}
use Rattle.haya_asked.proofs.questions.passing_hits.Given as goal

-- those so far and those of what is left are all
abbrev pub invariant-hits : goal.invariant-hits
invariant-hits l =
    l.passing.items ++ filter (passes (map test_view l.tests)) (into_iter_items l.hit-iterator)
    ≡ filter (passes (map test_view l.tests)) l.fn.hits.items
