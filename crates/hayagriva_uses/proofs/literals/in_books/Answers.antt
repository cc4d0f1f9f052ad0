use Rattle.std.specs.Prelude.{codes}
use Rattle.std.specs.Str.{chars}
use Rattle.hayagriva.specs.Cut.{cut}
use Rattle.hayagriva.specs.Descent.{selector_read}
use Rattle.hayagriva.specs.Grammar.{type_of}
use Rattle.hayagriva_uses.proofs.literals.in_books.Goals as goal

pub returns-clause-hits : goal.returns-clause-hits
unfolding selector_read cut type_of chars
returns-clause-hits c = c.query.ensures.entries

pub returns-clause-named : goal.returns-clause-named
unfolding selector_read cut type_of chars
returns-clause-named c = c.query.ensures.bound (codes "p")

pub returns-clause-error : goal.returns-clause-error
unfolding selector_read cut type_of chars
returns-clause-error c = c.query.ensures.error
