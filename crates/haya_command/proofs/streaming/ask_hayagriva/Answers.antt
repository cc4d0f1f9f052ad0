use Rattle.haya_json.specs.Notes.{notes_view}
use Rattle.haya_formats.specs.declared.format.Format.TheVariants.{Hayagriva}
use Rattle.haya_command.proofs.Readers.{member_read, member_refused}
use Rattle.haya_command.proofs.ElementLists.{elements_asked, elements_noted, elements_stopped, members_listed, same_notes}
use Rattle.haya_command.proofs.Streams.{if_err_weaker, if_ok_both}
use Rattle.haya_command.proofs.streaming.ask_hayagriva.Goals as goal

pub returns-in-Err-clause-part : goal.returns-in-Err-clause-part
returns-in-Err-clause-part g c = λ text known.
    elements_stopped (λ s. s.options.now) (λ s. s.selector) (λ s. s.hits) Hayagriva (λ r. r.number) (λ r. notes_view r.notes) (λ _. Unit {0}) _ _ member_read member_refused (λ l p es h. h) (λ p es k e h. h)
    (λ p x h. h) c.args.asker c.args.asker.streams c.new.result tt c.new.ensures.number c.new.ensures.notes _ _ text
    _ (λ p line x u left. same_notes x (notes_view u.notes) (notes_view p.notes) left) _ _ c.args.name.now _ _ _ c.list_fault.ensures (c.in-Err.ensures.part text known)

pub returns-in-Ok-clause-part : goal.returns-in-Ok-clause-part
returns-in-Ok-clause-part g c =
    if_err_weaker c.noted.result _ _ c.noted.ensures.fault
    (λ stop why text known.
    elements_noted (λ s. s.options.now) (λ s. s.selector) (λ s. s.hits) Hayagriva (λ r. r.number) (λ r. notes_view r.notes) (λ _. Unit {0}) _ _ member_read member_refused (λ l p es h. h) (λ p es k e h. h)
    c.args.asker _ c.args.asker.streams c.new.result _ tt c.new.ensures.notes members_listed _ _ _ _ text known
    c.args.name.now _ _ why (c.in-Ok.ensures.all text known))

pub returns-in-Ok-clause-asks : goal.returns-in-Ok-clause-asks
returns-in-Ok-clause-asks g c =
    if_ok_both c.noted.result _ _ _ _ c.noted.ensures.asker c.noted.ensures.same c.noted.ensures.none
    (λ done at same none.
    rw (at, same)
    (λ text known.
    elements_asked (λ s. s.options.now) (λ s. s.selector) (λ s. s.hits) Hayagriva (λ r. r.number) (λ r. notes_view r.notes) (λ _. Unit {0}) _ _ member_read member_refused (λ l p es h. h) (λ p es k e h. h)
    c.args.asker _ c.args.asker.streams c.new.result _ tt c.new.ensures.notes members_listed _ _ _ _ text known
    none (c.in-Ok.ensures.all text known)))
