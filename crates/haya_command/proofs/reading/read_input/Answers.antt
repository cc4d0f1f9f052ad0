use Rattle.std.proofs.Common.{◌≡◌, ap, subst, ◌∙◌}
use Rattle.std.specs.Prelude.{string_bytes}
use Rattle.haya_json.specs.Notes.{notes_view}
use Rattle.haya_formats.specs.Formats.{keyed_by}
use Rattle.haya_command.specs.Reading.{Tells, format_in}
use Rattle.haya_command.proofs.CollectedTexts.{told_by}
use Rattle.haya_command.proofs.reading.read_input.Goals as goal

pub returns-in-Ok-check_notes-clause-notes : goal.returns-in-Ok-check_notes-clause-notes
returns-in-Ok-check_notes-clause-notes c =
    let text = string_bytes c.args.input.now.text in
    let is : c.keyed_by-format.result ≡ format_in c.args.options.now text = c.keyed_by-format.ensures ∙ ap (keyed_by c.args.options.now.key) c.in_ok-format_for.ensures
    ∙ ap (format_in c.args.options.now) c.as_bytes.ensures.value in
    told_by c.args.options.now c.keyed_by-format.result text (notes_view c.in-Ok.notes) (notes_view c.in-Ok-check_notes.notes) is
    (subst (λ bytes. Tells c.keyed_by-format.result bytes (notes_view c.in-Ok.notes)) c.as_str.ensures.value c.in-Ok.ensures.notes)
    c.in-Ok-check_notes.ensures.same c.in-Ok-check_notes.ensures.none
