use Rattle.std.proofs.Common.{◌∙◌}
use Rattle.haya_printing.proofs.fields.push_texts.Goals as goal

pub returns : goal.returns
returns c = λ rest.
    (rw c.genre.ensures at c.in_ok-also-9.ensures) rest
    ∙ (rw c.abstract_.ensures at c.in_ok-also-8.ensures) _
    ∙ (rw c.note.ensures at c.in_ok-also-7.ensures) _
    ∙ (rw c.call_number.ensures at c.in_ok-also-6.ensures) _
    ∙ (rw c.archive_location.ensures at c.in_ok-also-5.ensures) _
    ∙ (rw c.archive.ensures at c.in_ok-also-4.ensures) _
    ∙ (rw c.organization.ensures at c.in_ok-also-3.ensures) _
    ∙ (rw c.location.ensures at c.in_ok-also-2.ensures) _
    ∙ (rw c.title.ensures at c.in_ok-also.ensures) _
