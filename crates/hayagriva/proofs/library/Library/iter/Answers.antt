use Rattle.std.proofs.Common.{subst}
use Rattle.hayagriva.specs.Library.{AreDistinct}
use Rattle.hayagriva.proofs.library.Library.iter.Goals as goal

pub returns-clause-distinct : goal.returns-clause-distinct
returns-clause-distinct c = subst AreDistinct c.self.view_is c.self.invariant.distinct
