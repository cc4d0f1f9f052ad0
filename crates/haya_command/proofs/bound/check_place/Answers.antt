use Rattle.std.proofs.Common.{◌≡◌, ◌∙◌, inr, refl, sym, ap, rules, Some}
use Rattle.std.specs.Prelude.{option_map, string_bytes}
use Rattle.haya_command.proofs.bound.check_place.Goals as goal

pub returns-in-Ok-from_str-clause-fault : goal.returns-in-Ok-from_str-clause-fault
returns-in-Ok-from_str-clause-fault c =
    let same : string_bytes c.in-Ok-from_str.name ≡ string_bytes c.in-Some.name = search rules in
    inr (record {
      text = c.in-Ok.text;
      name = c.in-Ok-from_str.name;
      is = refl;
      of_place = search rules;
      named = ap (option_map string_bytes) c.in-Some.is ∙ ap Some (sym same);
      unbound = rw same (rw c.as_str.ensures.value at (sym c.binds.ensures ∙ c.if-binds.false));
    })
