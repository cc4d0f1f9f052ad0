use Rattle.std.proofs.Common.{rules, tests}
use Rattle.std.proofs.lemmas.Iterator.{YieldsList-from_slice}
use Rattle.std.proofs.lemmas.Iterator.Search.{find_from_yields_List}
use denote.Enum.Bare.{sameb}
use Rattle.haya_entry.specs.contracts.types.EntryType.{the_type}
use Rattle.haya_entry.specs.declared.entry.Entry.{Entry, out-Entry}
use Rattle.haya_entry.specs.Names.{is_of_type}
use Rattle.haya_entry.proofs.LookupLemmas.{is_of_type-view, passing-found}
use Rattle.haya_entry.proofs.entry.Entry.parent_of_type.Goals as goal

pub returns : goal.returns
returns c =
    let tested = λ (e : Entry). sameb the_type (out-Entry e).entry_type c.args.kind in
    let found = find_from_yields_List tested _ _ c.find.result c.find.ensures.ran (YieldsList-from_slice c.deref.result.now cc) (λ x b q k. search (rules, tests)) in
    passing-found (is_of_type c.args.kind) tested (is_of_type-view c.args.kind) c.args.self.now c.deref.result.now c.find.result c.deref.ensures.value found
