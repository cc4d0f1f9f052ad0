use Rattle.std.proofs.Common.{◌∙◌}
use Rattle.haya_json.proofs.Written.{also_written}
use Rattle.haya_json.proofs.writing.fields.write_texts.Goals as goal

pub returns-clause-members : goal.returns-clause-members
returns-clause-members c = λ ms.
    also_written _ _ _ _ _ _ c.in_ok-also-9.ensures.member c.genre.ensures ms
    ∙ also_written _ _ _ _ _ _ c.in_ok-also-8.ensures.member c.abstract_.ensures _
    ∙ also_written _ _ _ _ _ _ c.in_ok-also-7.ensures.member c.note.ensures _
    ∙ also_written _ _ _ _ _ _ c.in_ok-also-6.ensures.member c.call_number.ensures _
    ∙ also_written _ _ _ _ _ _ c.in_ok-also-5.ensures.member c.archive_location.ensures _
    ∙ also_written _ _ _ _ _ _ c.in_ok-also-4.ensures.member c.archive.ensures _
    ∙ also_written _ _ _ _ _ _ c.in_ok-also-3.ensures.member c.organization.ensures _
    ∙ also_written _ _ _ _ _ _ c.in_ok-also-2.ensures.member c.location.ensures _
    ∙ also_written _ _ _ _ _ _ c.in_ok-also.ensures.member c.title.ensures _
