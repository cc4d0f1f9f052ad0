use Rattle.haya_json.specs.Notes.{notes_view}
use Rattle.haya_formats.specs.declared.format.Format.TheVariants.{CslJson}
use Rattle.haya_command.proofs.Readers.{KeepsKey, item_read, item_refused}
use Rattle.haya_command.proofs.ElementLists.{elements_asked, elements_noted, elements_stopped, items_listed, same_notes}
use Rattle.haya_command.proofs.Streams.{if_err_weaker, if_ok_both}
use Rattle.haya_command.proofs.streaming.ask_csl_json.Goals as goal

pub returns-in-Err-clause-part : goal.returns-in-Err-clause-part
returns-in-Err-clause-part g c = λ text known.
    let key = c.args.key in
    elements_stopped (λ s. s.options.now) (λ s. s.selector) (λ s. s.hits) (CslJson key) (λ r. r.number) (λ r. notes_view r.notes) (KeepsKey key) _ _ (item_read key) (item_refused key) (λ l p es h. h) (λ p es k e h. h)
    (λ p x h. h) c.args.asker c.args.asker.streams c.new.result c.new.ensures.key c.new.ensures.number c.new.ensures.notes _ _ text
    _ (λ p line x u left. same_notes x (notes_view u.notes) (notes_view p.notes) left) _ _ c.args.name.now _ _ _ c.list_fault.ensures (c.in-Err.ensures.part text known)

pub returns-in-Ok-clause-part : goal.returns-in-Ok-clause-part
returns-in-Ok-clause-part g c =
    let key = c.args.key in
    if_err_weaker c.noted.result _ _ c.noted.ensures.fault
    (λ stop why text known.
    elements_noted (λ s. s.options.now) (λ s. s.selector) (λ s. s.hits) (CslJson key) (λ r. r.number) (λ r. notes_view r.notes) (KeepsKey key) _ _ (item_read key) (item_refused key) (λ l p es h. h) (λ p es k e h. h)
    c.args.asker _ c.args.asker.streams c.new.result _ c.new.ensures.key c.new.ensures.notes (items_listed key) _ _ _ _ text known
    c.args.name.now _ _ why (c.in-Ok.ensures.all text known))

pub returns-in-Ok-clause-asks : goal.returns-in-Ok-clause-asks
returns-in-Ok-clause-asks g c =
    let key = c.args.key in
    if_ok_both c.noted.result _ _ _ _ c.noted.ensures.asker c.noted.ensures.same c.noted.ensures.none
    (λ done at same none.
    rw (at, same)
    (λ text known.
    elements_asked (λ s. s.options.now) (λ s. s.selector) (λ s. s.hits) (CslJson key) (λ r. r.number) (λ r. notes_view r.notes) (KeepsKey key) _ _ (item_read key) (item_refused key) (λ l p es h. h) (λ p es k e h. h)
    c.args.asker _ c.args.asker.streams c.new.result _ c.new.ensures.key c.new.ensures.notes (items_listed key) _ _ _ _ text known
    none (c.in-Ok.ensures.all text known)))
