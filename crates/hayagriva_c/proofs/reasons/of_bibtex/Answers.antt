use Rattle.std.proofs.Common.{◌≡◌, ◌⊎◌, [], ap, inl, string_bytes, sym, subst, ◌∙◌}
use Rattle.haya_bibtex.specs.Messages.{error_text}
use Rattle.haya_bibtex.specs.declared.error.BibtexReadError.TheVariants.{NotBibtex}
use Rattle.hayagriva_c.specs.Reasons.{IsToldOfBibtex}
use Rattle.hayagriva_c.specs.Told.{IsMemoryTold, IsTold}
use Rattle.hayagriva_c.proofs.reasons.of_bibtex.Goals as goal

pub returns-in-NotBibtex : goal.returns-in-NotBibtex
returns-in-NotBibtex c =
    let fault = c.in-NotBibtex.fault in
    let told = c.of_text.result in
    let reason : string_bytes c.in-Ok.reason ≡ error_text (NotBibtex fault) = c.in-Ok.ensures.ok ∙ ap error_text c.in-NotBibtex.is in
    subst (λ e. IsToldOfBibtex e told ⊎ IsMemoryTold told) (sym c.in-NotBibtex.is)
    (inl (subst (λ r. IsTold 210 0 fault.line fault.column [] [] r told) reason c.of_text.ensures))
