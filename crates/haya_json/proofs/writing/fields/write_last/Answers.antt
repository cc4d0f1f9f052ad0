use Rattle.std.proofs.Common.{◌∙◌}
use Rattle.haya_json.proofs.Written.{also_written}
use Rattle.haya_json.proofs.writing.fields.write_last.Goals as goal

pub returns-clause-members : goal.returns-clause-members
returns-clause-members c = λ ms.
    also_written _ _ _ _ _ _ c.in_ok-also_text.ensures.member c.language.ensures ms
    ∙ also_written _ _ _ _ _ _ c.in_ok-also.ensures.member c.serial_number.ensures _
