use Rattle.std.proofs.Common.{inl, inr, refl}
use Rattle.haya_entry.specs.Tree.{view}
use Rattle.hayagriva_c.proofs.changes.push.Goals as goal

pub returns-in-Ok : goal.returns-in-Ok
returns-in-Ok c =
    inl (record {
      entry = view c.in-Ok.entry;
      notes = c.in-Ok.notes;
      says = c.in-Ok.ensures.entry;
      told = c.in-Ok.ensures.notes;
      put = c.put.ensures;
    })

pub returns-in-Err : goal.returns-in-Err
returns-in-Err c =
    inr (record {
      kept = refl;
      told = c.in-Err.told;
      why = c.in-Err.ensures.told;
      code = refl;
      fault = c.of.ensures;
    })
