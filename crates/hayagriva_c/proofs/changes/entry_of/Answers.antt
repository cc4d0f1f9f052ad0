use Rattle.std.proofs.Common.{◌≢◌, ◌⊎◌, [], inl, inr, length, subst}
use Rattle.haya_json.specs.Libraries.{Describes}
use Rattle.hayagriva_c.specs.Changing.{WhyNoEntry, not_one, refused_entry}
use Rattle.hayagriva_c.specs.Told.{IsMemoryTold, IsTold}
use Rattle.hayagriva_c.proofs.Outcomes.{if_err}
use Rattle.hayagriva_c.proofs.changes.entry_of.Goals as goal

pub returns-in-Ok-json-clause-told : goal.returns-in-Ok-json-clause-told
returns-in-Ok-json-clause-told c =
    let bytes = c.args.bytes.now in
    let text = c.in-Ok.ensures.cases in
    let library = c.in-Ok-json.library in
    let says : Describes bytes library = subst (λ b. Describes b library) text.0 c.in-Ok-json.ensures.library in
    if_err (λ told. IsMemoryTold told ⊎ ((length library ≢ 1) × IsTold 9 0 0 0 [] [] [] told)) (WhyNoEntry bytes) c.only_entry.result
    (λ told why. elim why as (λ _. WhyNoEntry bytes told) [
      | inl memory ↦ refused_entry text.1 (inr memory)
      | inr many ↦ not_one text.1 library says many.0 many.1
    ])
    c.only_entry.ensures.told
