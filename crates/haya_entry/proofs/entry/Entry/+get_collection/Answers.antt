use Rattle.std.proofs.Common.{rules, tests, ◌||◌}
use Rattle.std.proofs.lemmas.Iterator.{YieldsList-from_slice}
use Rattle.std.proofs.lemmas.Iterator.Search.{find_from_yields_List}
use denote.Enum.Bare.{sameb}
use Rattle.haya_entry.specs.contracts.types.EntryType.{the_type}
use Rattle.haya_entry.specs.declared.entry.Entry.{Entry, out-Entry}
use Rattle.haya_entry.specs.declared.types.EntryType.TheVariants.{Anthology}
use Rattle.haya_entry.specs.Lookups.{collections, is_collection_of}
use Rattle.haya_entry.proofs.LookupLemmas.{searched-next, searched-found, searched-all, collections-searched, collections-passing, passing-found, is_collection_of-view}
use Rattle.haya_entry.proofs.entry.Entry.+get_collection.Goals as goal

pub returns-then-is_collected : goal.returns-then-is_collected
returns-then-is_collected t c =
    let kind = (out-Entry c.args.self.now).entry_type in
    let tested = λ (e : Entry). sameb the_type (out-Entry e).entry_type kind || sameb the_type (out-Entry e).entry_type Anthology in
    let found = find_from_yields_List tested _ _ c.find.result c.find.ensures.ran (YieldsList-from_slice c.deref.result.now cc) (λ x b q k. search (rules, tests)) in
    rw (collections-passing c.args.self.now (rw (← c.is_collected.ensures) c.if-is_collected.true)) (passing-found (is_collection_of kind) tested (is_collection_of-view kind) c.args.self.now c.deref.result.now c.find.result c.deref.ensures.value found)

pub loop-parent-init : goal.loop-parent-init
loop-parent-init t c = collections-searched c.args.self.now (rw (← c.is_collected.ensures) c.if-is_collected.false)

pub loop-parent-preserved : goal.loop-parent-preserved
loop-parent-preserved t c =
    searched-next collections _ c.args.self.now c.deref-parent-items.result.now c.deref-parent-items.ensures.value c.loop-parent.parent-index c.loop-parent.invariant
    c.parent-item.result c.loop-parent-test.true c.parent-item.is (rw c.in_default.is at c.get_collection.ensures)

pub returns-in-Some : goal.returns-in-Some
returns-in-Some t c =
    searched-found collections _ c.args.self.now c.deref-parent-items.result.now c.deref-parent-items.ensures.value c.loop-parent.parent-index c.loop-parent.invariant
    c.parent-item.result c.loop-parent-test.true c.parent-item.is c.in-Some.collection (rw c.in-Some.is at c.get_collection.ensures)

pub returns : goal.returns
returns t c =
    searched-all collections _ c.args.self.now c.deref-parent-items.result.now c.deref-parent-items.ensures.value c.loop-parent.parent-index c.loop-parent.invariant c.loop-parent-test.false
