use Rattle.std.proofs.lemmas.Iterator.{items_from_drains}
use Rattle.std.proofs.lemmas.Iterator.Consumers.{YieldsList-from_rest}
use Rattle.haya_hits.proofs.Collected.{names-collected, names-ordered}
use Rattle.haya_hits.proofs.names.bindings.Goals as goal

pub returns-clause-all : goal.returns-clause-all
returns-clause-all c =
    let es = c.args.hit.now.bindings.entries in
    let ran = c.in_ok-collect.ensures.ran in
    names-collected es ran.0 c.in_ok-collect.field-0.entries (items_from_drains ran.0 ran.1 (YieldsList-from_rest es c.iter.ensures.rest)) c.iter.ensures.unique ran.2.0

pub returns-clause-order : goal.returns-clause-order
returns-clause-order c = names-ordered c.in_ok-collect.field-0.entries c.in_ok-collect.ensures.ran.2.1
