use Rattle.std.proofs.Common.{◌≡◌, ◌⊎◌, [], ap, inl, string_bytes, sym, subst, ◌∙◌}
use Rattle.haya_yaml_library.specs.Messages.{error_text}
use Rattle.haya_yaml_library.specs.declared.error.YamlReadError.TheVariants.{NotYaml, Refused}
use Rattle.hayagriva_c.specs.Reasons.{IsToldOfYaml, json_code, pointer_of}
use Rattle.hayagriva_c.specs.Told.{IsMemoryTold, IsTold}
use Rattle.hayagriva_c.proofs.reasons.of_yaml.Goals as goal

pub returns-in-NotYaml : goal.returns-in-NotYaml
returns-in-NotYaml c =
    let fault = c.in-NotYaml.fault in
    let told = c.of_text.result in
    let reason : string_bytes c.in-Ok.reason ≡ error_text (NotYaml fault) = c.in-Ok.ensures.ok ∙ ap error_text c.in-NotYaml.is in
    subst (λ e. IsToldOfYaml e told ⊎ IsMemoryTold told) (sym c.in-NotYaml.is)
    (inl (subst (λ r. IsTold 209 0 fault.line fault.column [] [] r told) reason c.of_text.ensures))

pub returns-in-Refused : goal.returns-in-Refused
returns-in-Refused c =
    let line = c.in-Refused.line in
    let error = c.in-Refused.error in
    let told = c.of_value.result in
    let reason : string_bytes c.in-Ok.reason ≡ error_text (Refused line error) = c.in-Ok.ensures.ok ∙ ap error_text c.in-Refused.is in
    subst (λ e. IsToldOfYaml e told ⊎ IsMemoryTold told) (sym c.in-Refused.is)
    (subst (λ n. IsTold (json_code error) 0 n 0 (pointer_of error) [] (error_text (Refused line error)) told ⊎ IsMemoryTold told) c.unwrap_or.ensures
    (subst (λ r. IsTold (json_code error) 0 c.unwrap_or.result 0 (pointer_of error) [] r told ⊎ IsMemoryTold told) reason c.of_value.ensures))
