use Rattle.std.specs.Str.{chars}
use Rattle.hayagriva.proofs.Literals.{hits_are, name_is}
use Rattle.hayagriva.proofs.library.Library.query.Goals as goal

pub returns-clause-entries : goal.returns-clause-entries
returns-clause-entries c = hits_are (chars c.args.text.now) _ c.args.self.now _ c.in_ok-selector.ensures.computed c.in_ok-hits.ensures.hits

pub returns-clause-bound : goal.returns-clause-bound
returns-clause-bound c = name_is (chars c.args.text.now) _ c.args.self.now _ c.in_ok-selector.ensures.computed c.in_ok-hits.ensures.hits
