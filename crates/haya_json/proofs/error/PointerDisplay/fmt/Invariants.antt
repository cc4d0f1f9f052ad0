use Rattle.std.proofs.Common.{map, take}
use Rattle.std.specs.Fmt.{HasWritten, IsPlainFormatter}
use Rattle.haya_json.specs.Messages.{pointer}
use Rattle.haya_json.specs.Refusal.{step_view}
use Rattle.haya_json.proofs.error.PointerDisplay.fmt.Given as goal

-- the steps so far are written
abbrev pub invariant-loop-step : goal.invariant-loop-step
invariant-loop-step g l =
    IsPlainFormatter l.initial.f → HasWritten g.W.Write.write_str_gives l.initial.f (pointer (map step_view (take l.step-index l.step-items))) l.f
