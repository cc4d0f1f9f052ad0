use Rattle.std.proofs.Common.{◌∙◌, subst, sym}
use Rattle.std.specs.Prelude.{IfErr}
use Rattle.hayagriva_c.specs.Reading.{WhyNoLibrary, WhyNotIn, refused}
use Rattle.hayagriva_c.specs.Told.{IsMemoryTold}
use Rattle.hayagriva_c.proofs.NoMemory.{memory_in}
use Rattle.hayagriva_c.proofs.Outcomes.{if_err}
use Rattle.hayagriva_c.proofs.reading.library_of.Goals as goal

pub returns-in-Ok-library_in-clause-told : goal.returns-in-Ok-library_in-clause-told
returns-in-Ok-library_in-clause-told c =
    let bytes = c.without_mark-bytes.result.now in
    let format = c.in-Some.format in
    let text = c.in-Ok-from_utf8.ensures.cases in
    subst (λ b. IfErr c.shelf_of.result (WhyNoLibrary c.args.number b)) c.without_mark-bytes.ensures
    (if_err IsMemoryTold (WhyNoLibrary c.args.number bytes) c.shelf_of.result
    (λ told memory. refused format (sym c.in-Ok.ensures.format ∙ c.in-Some.is) text.1 (memory_in format bytes told memory))
    c.shelf_of.ensures.told)

pub returns-in-Err-clause-told : goal.returns-in-Err-clause-told
returns-in-Err-clause-told c =
    let format = c.in-Some.format in
    let text = c.in-Ok-from_utf8.ensures.cases in
    subst (λ b. WhyNoLibrary c.args.number b c.in-Err.told) c.without_mark-bytes.ensures
    (refused format (sym c.in-Ok.ensures.format ∙ c.in-Some.is) text.1 (subst (λ b. WhyNotIn format b c.in-Err.told) text.0 c.in-Err.ensures.told))
