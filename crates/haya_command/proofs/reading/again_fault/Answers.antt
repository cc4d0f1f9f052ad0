use Rattle.std.proofs.Common.{refl, inr}
use Rattle.haya_command.proofs.reading.again_fault.Goals as goal

pub returns-in-Ok-from_str : goal.returns-in-Ok-from_str
returns-in-Ok-from_str c =
    inr (record { called = c.in-Ok.name; again = c.in-Ok-from_str.key; is = refl; same = c.in-Ok.ensures.ok; same_key = c.in-Ok-from_str.ensures.ok })
