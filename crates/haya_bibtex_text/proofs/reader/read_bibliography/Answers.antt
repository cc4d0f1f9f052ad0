use Rattle.std.specs.Str.{chars}
use Rattle.haya_bibtex_text.specs.Bibliography.{BibliographyTexts}
use Rattle.haya_bibtex_text.specs.Outcomes.{HasFault, Reads}
use Rattle.haya_bibtex_text.proofs.Outcome.{errs_by, not_both, same_bibliography}
use Rattle.haya_bibtex_text.proofs.reader.read_bibliography.Goals as goal

pub returns-in-Ok-clause-ok : goal.returns-in-Ok-clause-ok
returns-in-Ok-clause-ok c =
    rw (c.as_slice.ensures.value, c.in_ok-characters.ensures) at c.in-Ok.ensures.ok

pub returns-in-Ok-clause-only : goal.returns-in-Ok-clause-only
returns-in-Ok-clause-only c =
    let said = rw (c.as_slice.ensures.value, c.in_ok-characters.ensures) at c.in-Ok.ensures.ok in
    λ b reads. same_bibliography (chars c.args.text.now) b _ reads said

pub returns-clause-fault : goal.returns-clause-fault
returns-clause-fault c =
    rw (c.as_slice.ensures.value, c.in_ok-characters.ensures) at c.in-Err.ensures.fault

pub returns-clause-none : goal.returns-clause-none
returns-clause-none c =
    let fails = rw (c.as_slice.ensures.value, c.in_ok-characters.ensures) at c.in-Err.ensures.fault in
    errs_by (HasFault (chars c.args.text.now)) (λ _. (b : BibliographyTexts) → Reads (chars c.args.text.now) b → ⊥)
    (λ f has b reads. not_both (chars c.args.text.now) b f reads has) _ fails
