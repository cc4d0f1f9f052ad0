use Rattle.haya_bibtex_text.specs.Definitions.{strings_view}
use Rattle.haya_bibtex_text.specs.ItemViews.{item_view}
use Rattle.haya_bibtex_text.specs.Names.{names_view}
use Rattle.haya_bibtex_text.proofs.Collecting.{collected_next, refused_by_grammar, refused_first}
use Rattle.haya_bibtex_text.proofs.collected.collect.Goals as goal

pub returns-in-Err-clause-fault : goal.returns-in-Err-clause-fault
returns-in-Err-clause-fault c =
    refused_by_grammar c.args.text.now c.items.left.now _ _ _ _ _ c.items.invariant c.in-Err.stop c.in-Err.ensures.fault

pub returns-in-Err-take_item-clause-fault : goal.returns-in-Err-take_item-clause-fault
returns-in-Err-take_item-clause-fault c =
    refused_first c.args.text.now c.items.left.now c.in-Ok-Some.read.1.now (strings_view c.items.strings) (names_view c.items.keys) c.items.room _ _
    (item_view c.in-Ok-Some.read.0) c.in-Err-take_item.stop c.first_stop.result c.items.invariant
    (rw c.in-Ok-Some.field-0-is at c.in-Ok-Some.ensures.item) (rw c.in-Ok-Some.field-0-is at c.in-Ok-Some.ensures.behind) c.in-Err-take_item.ensures.room c.first_stop.ensures

pub items-preserved-in-Ok : goal.items-preserved-in-Ok
items-preserved-in-Ok c =
    collected_next c.args.text.now c.items.left.now c.in-Ok-Some.read.1.now (strings_view c.items.strings) _ (names_view c.items.keys) _ c.items.room _ _ _ _ _
    (item_view c.in-Ok-Some.read.0) c.items.invariant (rw c.in-Ok-Some.field-0-is at c.in-Ok-Some.ensures.item) (rw c.in-Ok-Some.field-0-is at c.in-Ok-Some.ensures.behind)
    c.in-Ok.ensures.strings c.in-Ok.ensures.keys c.in-Ok.ensures.entries c.in-Ok.ensures.notes c.in-Ok.ensures.room

pub items-preserved-in-Ok-2 : goal.items-preserved-in-Ok-2
items-preserved-in-Ok-2 c =
    collected_next c.args.text.now c.items.left.now c.in-Ok-Some.read.1.now (strings_view c.items.strings) _ (names_view c.items.keys) _ c.items.room _ _ _ _ _
    (item_view c.in-Ok-Some.read.0) c.items.invariant (rw c.in-Ok-Some.field-0-is at c.in-Ok-Some.ensures.item) (rw c.in-Ok-Some.field-0-is at c.in-Ok-Some.ensures.behind)
    c.in-Ok.ensures.strings c.in-Ok.ensures.keys c.in-Ok.ensures.entries c.in-Ok.ensures.notes c.in-Ok.ensures.room

pub items-preserved : goal.items-preserved
items-preserved c =
    collected_next c.args.text.now c.items.left.now c.in-Ok-Some.read.1.now (strings_view c.items.strings) _ (names_view c.items.keys) _ c.items.room _ _ _ _ _
    (item_view c.in-Ok-Some.read.0) c.items.invariant (rw c.in-Ok-Some.field-0-is at c.in-Ok-Some.ensures.item) (rw c.in-Ok-Some.field-0-is at c.in-Ok-Some.ensures.behind)
    c.in-Ok.ensures.strings c.in-Ok.ensures.keys c.in-Ok.ensures.entries c.in-Ok.ensures.notes c.in-Ok.ensures.room
