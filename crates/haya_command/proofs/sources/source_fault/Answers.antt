use Rattle.std.proofs.Common.{inr, refl, rules}
use Rattle.haya_command.proofs.sources.source_fault.Goals as goal

pub returns-in-Ok : goal.returns-in-Ok
returns-in-Ok c = inr (record { called = c.in-Ok.name; is = refl; same = search rules })
