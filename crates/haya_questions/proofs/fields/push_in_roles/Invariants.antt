use Rattle.std.proofs.Common.{◌≡◌, ◌++◌, drop, map}
use Rattle.haya_people.specs.Roles.{roles_view}
use Rattle.haya_questions.specs.Fields.{in_roles}
use Rattle.haya_questions.specs.Value.{value_view}
use Rattle.haya_questions.proofs.fields.push_in_roles.Given as goal

-- the values so far and those of what is left are all
abbrev pub invariant-affiliated : goal.invariant-affiliated
invariant-affiliated l =
    map value_view l.values.items ++ in_roles (map roles_view (drop l.persons-index l.affiliated))
    ≡ map value_view l.initial.values.items ++ in_roles (map roles_view l.affiliated)
