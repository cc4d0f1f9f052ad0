use Rattle.haya_entry.specs.Tree.{view}
use Rattle.haya_entry.proofs.LookupLemmas.{tried-first, tried-next, tried-found, tried-all}
use Rattle.haya_entry.proofs.entry.Entry.get_container.Goals as goal

pub loop-kind-init : goal.loop-kind-init
loop-kind-init c = tried-first c.args.self.now c.container_types-kind-items.result.now c.container_types-kind-items.ensures

pub loop-kind-preserved : goal.loop-kind-preserved
loop-kind-preserved c =
    tried-next (view c.args.self.now) c.container_types-kind-items.result.now c.loop-kind.kind-index c.loop-kind.invariant _ c.loop-kind-test.true (rw c.in_default.is at c.parent_of_type.ensures)

pub returns-in-Some : goal.returns-in-Some
returns-in-Some c =
    tried-found (view c.args.self.now) c.container_types-kind-items.result.now c.loop-kind.kind-index c.loop-kind.invariant _ c.loop-kind-test.true c.in-Some.container (rw c.in-Some.is at c.parent_of_type.ensures)

pub returns : goal.returns
returns c = tried-all (view c.args.self.now) c.container_types-kind-items.result.now c.loop-kind.kind-index c.loop-kind.invariant c.loop-kind-test.false
