use Rattle.std.proofs.Common.{inl, inr, refl, sym, ap}
use Rattle.std.specs.Str.Lines.{lines}
use Rattle.haya_json.specs.Notes.{kept_of, none_kept}
use Rattle.haya_entry_stream.specs.Lines.{BeginsList, IsFaultOf, IsListOf}
use Rattle.haya_formats.specs.declared.format.Format.TheVariants.{Lines}
use Rattle.haya_command.proofs.EntryLists.{none_told}
use Rattle.haya_command.proofs.Streams.{asks_enough, asks_input, asks_part, options_kept, selector_kept, stream_why}
use Rattle.haya_command.proofs.streaming.ask_lines.Goals as goal

pub returns-in-Ok-clause-asks : goal.returns-in-Ok-clause-asks
returns-in-Ok-clause-asks g c =
    elim c.in-Ok.ensures.all [
      | inl a ↦ inl (asks_input (λ s. s.options.now) (λ s. s.selector) (λ s. s.hits) _ _ c.args.asker.streams _ _ _ _ Lines none_kept IsListOf (λ text entries listed. (listed, ap kept_of (sym (none_told (lines text))))) (λ _. refl) a)
      | inr a ↦ inr (asks_enough (λ s. s.options.now) (λ s. s.selector) (λ s. s.hits) _ _ c.args.asker.streams _ _ _ _ Lines BeginsList (λ text entries begins. begins) a)
    ]

pub returns-in-Ok-clause-options : goal.returns-in-Ok-clause-options
returns-in-Ok-clause-options g c =
    elim c.in-Ok.ensures.all [
      | inl a ↦ options_kept (λ s. s.options.now) (λ s. s.selector) (λ s. s.hits) _ _ a.replies c.args.asker.streams a.run
      | inr a ↦ options_kept (λ s. s.options.now) (λ s. s.selector) (λ s. s.hits) _ _ a.replies c.args.asker.streams a.run
    ]

pub returns-in-Ok-clause-selector : goal.returns-in-Ok-clause-selector
returns-in-Ok-clause-selector g c =
    elim c.in-Ok.ensures.all [
      | inl a ↦ selector_kept (λ s. s.options.now) (λ s. s.selector) (λ s. s.hits) _ _ a.replies c.args.asker.streams a.run
      | inr a ↦ selector_kept (λ s. s.options.now) (λ s. s.selector) (λ s. s.hits) _ _ a.replies c.args.asker.streams a.run
    ]

pub returns-in-Err-clause-part : goal.returns-in-Err-clause-part
returns-in-Err-clause-part g c =
    let a = c.in-Err.ensures.part in
    asks_part (λ s. s.options.now) (λ s. s.selector) (λ s. s.hits) c.args.asker a.last c.args.asker.streams _ _ _ _ Lines c.args.name.now _ _ a.text a.part a.replies
    a.written a.unwritten a.read a.of_text a.list a.run a.parts
    (stream_why c.args.asker.options.now Lines c.args.name.now IsFaultOf _ _ (λ text fault e is at. rw is at) a.part a.unwritten c.in-Err.stopped.fault _ c.list_fault.ensures a.why) c.with_hash_keys-notes.ensures a.prints
