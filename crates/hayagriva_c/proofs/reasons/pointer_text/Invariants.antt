use Rattle.std.proofs.Common.{◌≡◌, map, take}
use Rattle.std.specs.Prelude.{string_bytes}
use Rattle.haya_json.specs.Messages.{pointer}
use Rattle.haya_json.specs.Refusal.{step_view}
use Rattle.hayagriva_c.proofs.reasons.pointer_text.Given as goal

-- the text is the pointer of the steps so far
abbrev pub invariant-steps : goal.invariant-steps
invariant-steps l = string_bytes l.text ≡ pointer (map step_view (take l.step-index l.path))
