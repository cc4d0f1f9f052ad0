use Rattle.haya_selectors.proofs.NameSets.{without_bit}
use Rattle.haya_selectors.proofs.names.without.Goals as goal

pub returns-clause-smaller : goal.returns-clause-smaller
returns-clause-smaller c = (without_bit c.args.set c.args.field c.requires).0

pub returns-clause-this : goal.returns-clause-this
returns-clause-this c = (without_bit c.args.set c.args.field c.requires).1.0

pub returns-clause-others : goal.returns-clause-others
returns-clause-others c = (without_bit c.args.set c.args.field c.requires).1.1
