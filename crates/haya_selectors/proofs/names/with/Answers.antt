use Rattle.haya_selectors.proofs.NameSets.{with_bit}
use Rattle.haya_selectors.proofs.names.with.Goals as goal

pub returns-clause-this : goal.returns-clause-this
returns-clause-this c = (with_bit c.args.set c.args.field).0

pub returns-clause-others : goal.returns-clause-others
returns-clause-others c = (with_bit c.args.set c.args.field).1
