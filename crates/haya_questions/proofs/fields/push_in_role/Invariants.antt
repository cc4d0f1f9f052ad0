use Rattle.std.proofs.Common.{◌≡◌, ◌++◌, drop, map}
use Rattle.haya_people.specs.Person.{person_view}
use Rattle.haya_people.specs.Roles.{role_view}
use Rattle.haya_questions.specs.Value.{RoleValue, value_view}
use Rattle.haya_questions.proofs.fields.push_in_role.Given as goal

-- the values so far and those of what is left are all
abbrev pub invariant-persons : goal.invariant-persons
invariant-persons l =
    map value_view l.values.items ++ map (RoleValue (role_view l.role)) (map person_view (drop l.person-index l.persons))
    ≡ map value_view l.initial.values.items ++ map (RoleValue (role_view l.role)) (map person_view l.persons)
