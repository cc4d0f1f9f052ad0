use Rattle.std.proofs.Common.{◌∙◌}
use Rattle.haya_json.proofs.Written.{also_written}
use Rattle.haya_json.proofs.writing.fields.write_people.Goals as goal

pub returns-clause-members : goal.returns-clause-members
returns-clause-members c = λ ms.
    also_written _ _ _ _ _ _ c.in_ok-also-3.ensures.member c.url.ensures ms
    ∙ also_written _ _ _ _ _ _ c.in_ok-also-2.ensures.member c.publisher.ensures _
    ∙ also_written _ _ _ _ _ _ c.in_ok-also.ensures.member c.date.ensures _
    ∙ also_written _ _ _ _ _ _ c.in_ok-also_many-3.ensures.member c.affiliated.ensures _
    ∙ also_written _ _ _ _ _ _ c.in_ok-also_many-2.ensures.member c.editors.ensures _
    ∙ also_written _ _ _ _ _ _ c.in_ok-also_many.ensures.member c.authors.ensures _
