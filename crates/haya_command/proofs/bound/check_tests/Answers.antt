use Rattle.hayagriva.specs.Syntax.{syntax}
use Rattle.haya_questions.specs.Place.{place_view}
use Rattle.haya_command.specs.Bound.{IsBindable}
use Rattle.haya_command.specs.Picks.{wanted}
use Rattle.haya_command.proofs.Bindable.{all_more, all_seen, fault_there}
use Rattle.haya_command.proofs.bound.check_tests.Goals as goal

pub tests-preserved : goal.tests-preserved
tests-preserved c = all_more (λ t. IsBindable (wanted c.args.invert (syntax c.args.selector.now)) (place_view t.place)) _ _ _ c.test-item.is c.tests-test.true c.tests.invariant c.in-Ok.ensures.bound

pub returns-clause-bound : goal.returns-clause-bound
returns-clause-bound c = all_seen (λ t. IsBindable (wanted c.args.invert (syntax c.args.selector.now)) (place_view t.place)) _ _ c.tests-test.false c.tests.auto.test-index-end c.tests.invariant

pub returns-in-Err-clause-fault : goal.returns-in-Err-clause-fault
returns-in-Err-clause-fault c = fault_there _ _ _ _ _ c.test-item.is c.tests-test.true c.in-Err.ensures.fault
