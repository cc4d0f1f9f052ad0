use Rattle.std.proofs.Common.{Some, inl, inr, ap, refl, ◌∙◌}
use Rattle.hayagriva_c.proofs.making.library_read.Goals as goal

pub returns-in-Some : goal.returns-in-Some
returns-in-Some c =
    inl (record {
      shelf = c.in-Ok.shelf;
      holds = c.of.ensures ∙ ap Some c.in-Some.ensures;
      says = c.in-Ok.ensures.library;
      notes = c.in-Ok.ensures.notes;
      code = refl;
      same = refl;
    })

pub returns-in-Err : goal.returns-in-Err
returns-in-Err c =
    inr (inl (record {
      kept = refl;
      told = c.in-Err.told;
      why = c.in-Err.ensures.told;
      code = refl;
      fault = c.of-in-Err.ensures;
    }))
