use Rattle.std.proofs.Common.{inl, inr, refl, ◌∙◌, sym, append-nil, []}
use Rattle.std.specs.Str.Lines.{lines}
use Rattle.haya_json.specs.Notes.{notes_view}
use Rattle.haya_entry_stream.specs.Listed.{entries_of, printed_of}
use Rattle.haya_command.specs.AskedLines.{IsJsonLineErrorFor}
use Rattle.haya_formats.specs.declared.format.Format.TheVariants.{JsonLines}
use Rattle.haya_command.proofs.EntryLists.{begins_list, first_of_all, line_error, line_kept, lines_too_many, loss_tells, loss_why, reads_list, stream_tells, told_kept}
use Rattle.haya_command.proofs.Streams.{asks_enough, asks_input, asks_part, if_err_weaker, if_ok_both, options_kept, selector_kept, stream_why}
use Rattle.haya_command.proofs.streaming.ask_json_lines.Goals as goal

pub returns-in-Err-clause-part : goal.returns-in-Err-clause-part
returns-in-Err-clause-part g c =
    let a = c.in-Err.ensures.part in
    asks_part (λ s. s.options.now) (λ s. s.selector) (λ s. s.hits) c.args.asker a.last c.args.asker.streams _ _ _ _ JsonLines c.args.name.now _ _ a.text a.part a.replies
    a.written a.unwritten a.read a.of_text (begins_list JsonLines (λ r. notes_view r.notes) (λ _. Unit {0}) _ (λ _ _ _ _ _ h. (tt, h)) c.new.result tt a.part (entries_of a.replies) a.list.0 a.list.1) a.run a.parts
    (stream_why c.args.asker.options.now JsonLines c.args.name.now _ _ _ (λ text fault e is at. line_error (λ r. notes_view r.notes) c.new.result text fault e is at) a.part a.unwritten c.in-Err.stopped.fault _ c.list_fault.ensures a.why)
    (stream_tells JsonLines (λ r. notes_view r.notes) (λ _. Unit {0}) _ (λ _ _ _ _ _ h. (tt, h)) c.new.result tt c.new.ensures _ IsJsonLineErrorFor (line_kept (λ r. notes_view r.notes)) lines_too_many c.args.name.now a.part (entries_of a.replies) _ c.in-Err.stopped.fault _ c.list_fault.ensures a.leaves) a.prints

-- a strict run, or out of memory: all that was read is asked, and what is printed of it written
pub returns-in-Ok-clause-part : goal.returns-in-Ok-clause-part
returns-in-Ok-clause-part g c =
    if_err_weaker c.noted.result _ _ c.noted.ensures.fault
    (λ stop why.
    elim c.in-Ok.ensures.all [
      | inl a ↦
          let begins = first_of_all JsonLines (λ r. notes_view r.notes) (λ _. Unit {0}) _ (λ _ _ _ _ _ h. (tt, h)) a.text (entries_of a.replies) _ _ a.list in
          asks_part (λ s. s.options.now) (λ s. s.selector) (λ s. s.hits) c.args.asker _ c.args.asker.streams _ _ _ _ JsonLines c.args.name.now _ _ a.text a.text a.replies (printed_of a.replies) [] a.read (inl (a.at_end, refl))
          (begins_list JsonLines (λ r. notes_view r.notes) (λ _. Unit {0}) _ (λ _ _ _ _ _ h. (tt, h)) c.new.result tt a.text (entries_of a.replies) _ begins) a.run (sym (append-nil (printed_of a.replies)))
          (loss_why JsonLines (λ r. notes_view r.notes) (λ _. Unit {0}) _ (λ _ _ _ _ _ h. (tt, h)) c.new.result tt c.new.ensures c.args.asker.options.now _ c.args.name.now a.text (entries_of a.replies) _ _
          (options_kept (λ s. s.options.now) (λ s. s.selector) (λ s. s.hits) _ _ a.replies c.args.asker.streams a.run) begins why)
          (loss_tells JsonLines _ c.args.name.now a.text (entries_of a.replies) _ _ _ why) a.prints
      | inr a ↦
          asks_part (λ s. s.options.now) (λ s. s.selector) (λ s. s.hits) c.args.asker _ c.args.asker.streams _ _ _ _ JsonLines c.args.name.now _ _ a.text a.part a.replies (printed_of a.replies) [] a.read a.of_text
          (begins_list JsonLines (λ r. notes_view r.notes) (λ _. Unit {0}) _ (λ _ _ _ _ _ h. (tt, h)) c.new.result tt a.part (entries_of a.replies) _ a.list) a.run (sym (append-nil (printed_of a.replies)))
          (loss_why JsonLines (λ r. notes_view r.notes) (λ _. Unit {0}) _ (λ _ _ _ _ _ h. (tt, h)) c.new.result tt c.new.ensures c.args.asker.options.now _ c.args.name.now a.part (entries_of a.replies) _ _
          (options_kept (λ s. s.options.now) (λ s. s.selector) (λ s. s.hits) _ _ a.replies c.args.asker.streams a.run) a.list why)
          (loss_tells JsonLines _ c.args.name.now a.part (entries_of a.replies) _ _ _ why) a.prints
    ])

pub returns-in-Ok-clause-options : goal.returns-in-Ok-clause-options
returns-in-Ok-clause-options g c =
    if_ok_both c.noted.result _ _ _ _ c.noted.ensures.asker c.noted.ensures.same c.noted.ensures.none
    (λ done at same none.
    rw at
    (elim c.in-Ok.ensures.all [
      | inl a ↦ options_kept (λ s. s.options.now) (λ s. s.selector) (λ s. s.hits) _ _ a.replies c.args.asker.streams a.run
      | inr a ↦ options_kept (λ s. s.options.now) (λ s. s.selector) (λ s. s.hits) _ _ a.replies c.args.asker.streams a.run
    ]))

pub returns-in-Ok-clause-selector : goal.returns-in-Ok-clause-selector
returns-in-Ok-clause-selector g c =
    if_ok_both c.noted.result _ _ _ _ c.noted.ensures.asker c.noted.ensures.same c.noted.ensures.none
    (λ done at same none.
    rw at
    (elim c.in-Ok.ensures.all [
      | inl a ↦ selector_kept (λ s. s.options.now) (λ s. s.selector) (λ s. s.hits) _ _ a.replies c.args.asker.streams a.run
      | inr a ↦ selector_kept (λ s. s.options.now) (λ s. s.selector) (λ s. s.hits) _ _ a.replies c.args.asker.streams a.run
    ]))

pub returns-in-Ok-clause-asks : goal.returns-in-Ok-clause-asks
returns-in-Ok-clause-asks g c =
    if_ok_both c.noted.result _ _ _ _ c.noted.ensures.asker c.noted.ensures.same c.noted.ensures.none
    (λ done at same none.
    rw (at, same)
    (elim c.in-Ok.ensures.all [
      | inl a ↦
          inl (asks_input (λ s. s.options.now) (λ s. s.selector) (λ s. s.hits) _ _ c.args.asker.streams _ _ _ _ JsonLines _ _
          (λ text entries reads.
          let all = reads_list JsonLines (λ r. notes_view r.notes) (λ _. Unit {0}) _ (λ _ _ _ _ _ h. (tt, h)) c.new.result tt _ entries _ reads in
          (all.listed, all.all ∙ told_kept JsonLines (lines text) _ c.new.ensures))
          (λ strict. none (rw (options_kept (λ s. s.options.now) (λ s. s.selector) (λ s. s.hits) _ _ a.replies c.args.asker.streams a.run) strict)) a)
      | inr a ↦
          inr (asks_enough (λ s. s.options.now) (λ s. s.selector) (λ s. s.hits) _ _ c.args.asker.streams _ _ _ _ JsonLines _ (λ text entries begins. begins_list JsonLines (λ r. notes_view r.notes) (λ _. Unit {0}) _ (λ _ _ _ _ _ h. (tt, h)) c.new.result tt text entries _ begins) a)
    ]))
