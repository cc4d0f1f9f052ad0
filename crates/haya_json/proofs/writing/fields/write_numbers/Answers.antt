use Rattle.std.proofs.Common.{◌∙◌}
use Rattle.haya_json.proofs.Written.{also_written}
use Rattle.haya_json.proofs.writing.fields.write_numbers.Goals as goal

pub returns-clause-members : goal.returns-clause-members
returns-clause-members c = λ ms.
    also_written _ _ _ _ _ _ c.in_ok-also-9.ensures.member c.runtime.ensures ms
    ∙ also_written _ _ _ _ _ _ c.in_ok-also-8.ensures.member c.time_range.ensures _
    ∙ also_written _ _ _ _ _ _ c.in_ok-also-7.ensures.member c.page_range.ensures _
    ∙ also_written _ _ _ _ _ _ c.in_ok-also-6.ensures.member c.page_total.ensures _
    ∙ also_written _ _ _ _ _ _ c.in_ok-also-5.ensures.member c.volume_total.ensures _
    ∙ also_written _ _ _ _ _ _ c.in_ok-also-4.ensures.member c.edition.ensures _
    ∙ also_written _ _ _ _ _ _ c.in_ok-also-3.ensures.member c.volume.ensures _
    ∙ also_written _ _ _ _ _ _ c.in_ok-also-2.ensures.member c.chapter.ensures _
    ∙ also_written _ _ _ _ _ _ c.in_ok-also.ensures.member c.issue.ensures _
