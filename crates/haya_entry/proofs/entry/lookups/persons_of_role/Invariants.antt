use Rattle.std.proofs.Common.{◌≡◌, map, take}
use Rattle.haya_people.specs.Person.{person_view}
use Rattle.haya_people.specs.Roles.{role_view, roles_view}
use Rattle.haya_entry.specs.Lookups.{persons_of_role}
use Rattle.haya_entry.proofs.entry.lookups.persons_of_role.Given as goal

-- the persons so far are those of the lists so far
abbrev pub invariant-lists : goal.invariant-lists
invariant-lists l =
    map (λ p. person_view p.now) l.persons.items ≡ persons_of_role (role_view l.role) (map roles_view (take l.list-index l.lists))
