use Rattle.std.proofs.Common.{◌≡◌, Option, None, Some, Ok, ap, sym, ◌∙◌, rules}
use Rattle.std.specs.Prelude.{ok_or, option_map}
use Rattle.json.specs.Value.{value_view}
use Rattle.haya_people.specs.Roles.{role_read, role_view}
use Rattle.haya_people.specs.declared.person.PersonError.TheVariants as person
use Rattle.haya_json.specs.declared.fault.Why.TheVariants.{UnknownRole}
use Rattle.haya_json.specs.Refusal.{here, and_then}
use Rattle.haya_json.specs.Parts.{bytes_of}
use Rattle.haya_json.specs.Values.{role_of}
use Rattle.haya_json.proofs.values.people.PersonRoleFromJson.from_json.Goals as goal

-- what is read is read with another fault beside it too, and seen by value
ok_or-map : {T V E D : Type 0} (view : T → V) (e : E) (d : D) (read : Option T) (x : T) → ok_or read e ≡ Ok x
    → ok_or (option_map view read) d ≡ Ok (view x)
ok_or-map view e d None x h = cc
ok_or-map view e d (Some y) x h = let same : y ≡ x = cc in ap (λ z. Ok (view z)) same

pub returns-in-Ok-clause-ok : goal.returns-in-Ok-clause-ok
unfolding role_of
returns-in-Ok-clause-ok c =
    let text = c.in_ok-text.text.now in
    let was : bytes_of (value_view c.args.json.now) ≡ Ok text = search rules in
    ap (λ r. and_then r (λ t. ok_or (option_map role_view (role_read t)) (here UnknownRole))) was
    ∙ ok_or-map role_view person.UnknownRole (here UnknownRole) (role_read text) c.in-Ok.role (sym c.parse.ensures.value ∙ c.in-Ok.is)
