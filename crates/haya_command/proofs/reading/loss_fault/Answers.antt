use Rattle.std.proofs.Common.{refl, inr}
use Rattle.haya_command.proofs.reading.loss_fault.Goals as goal

pub returns-in-Ok : goal.returns-in-Ok
returns-in-Ok c = inr (λ kept first. record { called = c.in-Ok.name; note = c.args.note; is = refl; same = c.in-Ok.ensures.ok; first = first })
