use Rattle.std.proofs.Common.{◌∙◌}
use Rattle.haya_printing.proofs.fields.push_numbers.Goals as goal

pub returns : goal.returns
returns c = λ rest.
    (rw c.runtime.ensures at c.in_ok-also-9.ensures) rest
    ∙ (rw c.time_range.ensures at c.in_ok-also-8.ensures) _
    ∙ (rw c.page_range.ensures at c.in_ok-also-7.ensures) _
    ∙ (rw c.page_total.ensures at c.in_ok-also-6.ensures) _
    ∙ (rw c.volume_total.ensures at c.in_ok-also-5.ensures) _
    ∙ (rw c.edition.ensures at c.in_ok-also-4.ensures) _
    ∙ (rw c.volume.ensures at c.in_ok-also-3.ensures) _
    ∙ (rw c.chapter.ensures at c.in_ok-also-2.ensures) _
    ∙ (rw c.issue.ensures at c.in_ok-also.ensures) _
