use Rattle.std.proofs.Common.{inr, refl, rules}
use Rattle.haya_command.proofs.source_kinds.kind_fault.Goals as goal

pub returns-in-Ok : goal.returns-in-Ok
returns-in-Ok c =
    inr (λ form first format of_kind. record {
      called = c.in-Ok.name;
      error = c.args.error;
      is = refl;
      same = search rules;
      of_kind = of_kind;
    })
