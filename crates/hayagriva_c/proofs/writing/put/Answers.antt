use Rattle.std.proofs.Common.{inl, refl, subst}
use Rattle.hayagriva_c.specs.Faults.{IsWrittenOut}
use Rattle.hayagriva_c.proofs.writing.put.Goals as goal

pub returns-in-Some : goal.returns-in-Some
returns-in-Some c =
    let made = subst (IsWrittenOut c.args.bytes) c.in-Some.is c.of.ensures in
    inl (record { bytes = c.args.bytes; are = refl; text = made.0; holds = made.1; code = refl })
