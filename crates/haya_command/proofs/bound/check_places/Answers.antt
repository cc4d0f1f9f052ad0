use Rattle.hayagriva.specs.Syntax.{syntax}
use Rattle.haya_questions.specs.Place.{place_view}
use Rattle.haya_command.specs.Bound.{IsBindable}
use Rattle.haya_command.specs.Picks.{wanted}
use Rattle.haya_command.proofs.Bindable.{all_more, all_seen, fault_there}
use Rattle.haya_command.proofs.bound.check_places.Goals as goal

pub places-preserved : goal.places-preserved
places-preserved c = all_more (λ p. IsBindable (wanted c.args.invert (syntax c.args.selector.now)) (place_view p)) _ _ _ c.place-item.is c.places-test.true c.places.invariant c.in-Ok.ensures.bound

pub returns-clause-bound : goal.returns-clause-bound
returns-clause-bound c = all_seen (λ p. IsBindable (wanted c.args.invert (syntax c.args.selector.now)) (place_view p)) _ _ c.places-test.false c.places.auto.place-index-end c.places.invariant

pub returns-in-Err-clause-fault : goal.returns-in-Err-clause-fault
returns-in-Err-clause-fault c = fault_there _ _ _ _ _ c.place-item.is c.places-test.true c.in-Err.ensures.fault
