use Rattle.hayagriva.specs.Syntax.{syntax}
use Rattle.haya_questions.specs.Place.{place_view}
use Rattle.haya_command.specs.Bound.{IsBindable}
use Rattle.haya_command.specs.Picks.{wanted}
use Rattle.haya_command.proofs.Bindable.{all_more, all_seen, fault_there}
use Rattle.haya_command.proofs.bound.check_keys.Goals as goal

pub keys-preserved : goal.keys-preserved
keys-preserved c = all_more (λ k. IsBindable (wanted c.args.invert (syntax c.args.selector.now)) (place_view k.place)) _ _ _ c.key-item.is c.keys-test.true c.keys.invariant c.in-Ok.ensures.bound

pub returns-clause-bound : goal.returns-clause-bound
returns-clause-bound c = all_seen (λ k. IsBindable (wanted c.args.invert (syntax c.args.selector.now)) (place_view k.place)) _ _ c.keys-test.false c.keys.auto.key-index-end c.keys.invariant

pub returns-in-Err-clause-fault : goal.returns-in-Err-clause-fault
returns-in-Err-clause-fault c = fault_there _ _ _ _ _ c.key-item.is c.keys-test.true c.in-Err.ensures.fault
