use Rattle.std.proofs.Common.{take}
use Rattle.std.specs.Prelude.{All}
use Rattle.hayagriva.specs.Syntax.{syntax}
use Rattle.haya_command.specs.Bound.{IsBindable}
use Rattle.haya_command.specs.Picks.{wanted}
use Rattle.haya_questions.specs.Place.{place_view}
use Rattle.haya_command.proofs.bound.check_tests.Given as goal

-- the names so far can be bound
abbrev pub invariant-tests : goal.invariant-tests
invariant-tests l = All (λ t. IsBindable (wanted l.invert (syntax l.selector)) (place_view t.place)) (take l.test-index l.tests)
