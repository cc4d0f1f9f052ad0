-- JSON Pointers that are put together step by step.
use Rattle.std.proofs.Common.{◌≡◌, List, [], ◌∷◌, ◌++◌, map, ap, ◌∙◌}
use Rattle.std.proofs.lemmas.List.{append-nil, map-append}
use Rattle.std.proofs.lemmas.Grind.{flat_map-append}
use Rattle.haya_json.specs.Messages.{pointer, pointer_step}
use Rattle.haya_json.specs.Refusal.{step_view}
use Rattle.haya_json.specs.declared.fault.Step.{Step}

-- the pointer with one more step
pub pointer_more : (steps : List Step) (step : Step) → pointer (map step_view (steps ++ step ∷ [])) ≡ pointer (map step_view steps) ++ pointer_step (step_view step)
pointer_more steps step =
    ap pointer (map-append step_view steps (step ∷ []))
    ∙ flat_map-append pointer_step (map step_view steps) (step_view step ∷ [])
    ∙ ap (λ text. pointer (map step_view steps) ++ text) (append-nil (pointer_step (step_view step)))
