use Rattle.std.proofs.Common.{◌≡◌, Option, None, Some, Ok, ap, sym, ◌∙◌}
use Rattle.std.specs.Prelude.{ok_or, option_map}
use Rattle.haya_people.specs.Roles.{role_read, role_view}
use Rattle.haya_people.specs.declared.person.PersonError.TheVariants.{UnknownRole}
use Rattle.haya_lines.specs.declared.error.LineError.TheVariants.{RefusedValue}
use Rattle.haya_lines.proofs.field.read_role.Goals as goal

-- what is read is read with another fault beside it too, and seen by value
ok_or-map : {T V E D : Type 0} (view : T → V) (e : E) (d : D) (read : Option T) (x : T) → ok_or read e ≡ Ok x → ok_or (option_map view read) d ≡ Ok (view x)
ok_or-map view e d None x h = cc
ok_or-map view e d (Some y) x h = let same : y ≡ x = cc in ap (λ z. Ok (view z)) same

pub returns-clause-ok : goal.returns-clause-ok
returns-clause-ok c = ok_or-map role_view UnknownRole RefusedValue (role_read c.args.name.now) c.in-Ok.role (sym c.parse.ensures.value ∙ c.in-Ok.is)
