use Rattle.std.proofs.Common.{◌≡◌, drop, map}
use Rattle.haya_questions.specs.Test.{test_view}
use Rattle.haya_asked.specs.Asked.{passes}
use Rattle.haya_asked.proofs.questions.passes.Given as goal

-- the answer is that of the tests that are left
abbrev pub invariant-tests : goal.invariant-tests
invariant-tests l = passes (map test_view (drop l.test-index l.tests)) l.hit ≡ passes (map test_view l.tests) l.hit
