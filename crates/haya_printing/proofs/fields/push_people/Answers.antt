use Rattle.std.proofs.Common.{◌∙◌}
use Rattle.haya_printing.proofs.fields.push_people.Goals as goal

pub returns : goal.returns
returns c = λ rest.
    (rw c.url.ensures at c.in_ok-also-3.ensures) rest
    ∙ (rw c.publisher_name.ensures at c.in_ok-also-2.ensures) _
    ∙ (rw c.date.ensures at c.in_ok-also.ensures) _
    ∙ (rw c.affiliated.ensures at c.in_ok-also_roles.ensures) _
    ∙ (rw c.editors.ensures at c.in_ok-also_each-2.ensures) _
    ∙ (rw c.authors.ensures at c.in_ok-also_each.ensures) _
