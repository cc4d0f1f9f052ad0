use Rattle.haya_entry.specs.Lookups.{entries_of_type}
use Rattle.haya_entry.proofs.LookupLemmas.{searched-next, searched-found, searched-all, types-searched}
use Rattle.haya_entry.proofs.entry.Entry.+dfs_parent.Goals as goal

pub loop-parent-init : goal.loop-parent-init
loop-parent-init t c = types-searched c.args.kind c.args.self.now (rw (← c.eq.ensures) c.if-eq.false)

pub loop-parent-preserved : goal.loop-parent-preserved
loop-parent-preserved t c =
    searched-next (entries_of_type c.args.kind) _ c.args.self.now c.deref-parent-items.result.now c.deref-parent-items.ensures.value c.loop-parent.parent-index c.loop-parent.invariant
    c.parent-item.result c.loop-parent-test.true c.parent-item.is (rw c.in_default.is at c.dfs_parent.ensures)

pub returns-in-Some : goal.returns-in-Some
returns-in-Some t c =
    searched-found (entries_of_type c.args.kind) _ c.args.self.now c.deref-parent-items.result.now c.deref-parent-items.ensures.value c.loop-parent.parent-index c.loop-parent.invariant
    c.parent-item.result c.loop-parent-test.true c.parent-item.is c.in-Some.found (rw c.in-Some.is at c.dfs_parent.ensures)

pub returns : goal.returns
returns t c =
    searched-all (entries_of_type c.args.kind) _ c.args.self.now c.deref-parent-items.result.now c.deref-parent-items.ensures.value c.loop-parent.parent-index c.loop-parent.invariant c.loop-parent-test.false
