use Rattle.std.proofs.Common.{◌∙◌}
use Rattle.haya_printing.proofs.fields.push_last.Goals as goal

pub returns : goal.returns
returns c = λ rest.
    (rw c.language.ensures at c.in_ok-also_text-8.ensures) rest
    ∙ (rw c.arxiv.ensures at c.in_ok-also_text-7.ensures) _
    ∙ (rw c.pmcid.ensures at c.in_ok-also_text-6.ensures) _
    ∙ (rw c.pmid.ensures at c.in_ok-also_text-5.ensures) _
    ∙ (rw c.issn.ensures at c.in_ok-also_text-4.ensures) _
    ∙ (rw c.isbn.ensures at c.in_ok-also_text-3.ensures) _
    ∙ (rw c.doi.ensures at c.in_ok-also_text-2.ensures) _
    ∙ (rw c.keyed_serial_number.ensures at c.in_ok-also_text.ensures) _
