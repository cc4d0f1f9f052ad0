use Rattle.std.proofs.Common.{Some, inl, inr, ap, refl, ◌∙◌}
use Rattle.hayagriva_c.proofs.making.selector_read.Goals as goal

pub returns-in-Some : goal.returns-in-Some
returns-in-Some c =
    inl (record {
      asked = c.in-Ok.asked;
      holds = c.of.ensures ∙ ap Some c.in-Some.ensures;
      asks = c.in-Ok.ensures.selector;
      code = refl;
      same = refl;
    })

pub returns-in-Err : goal.returns-in-Err
returns-in-Err c =
    inr (
      refl,
      inl (record {
        kept = refl;
        told = c.in-Err.told;
        why = c.in-Err.ensures.told;
        code = refl;
        fault = c.of-in-Err.ensures;
      }),
    )
