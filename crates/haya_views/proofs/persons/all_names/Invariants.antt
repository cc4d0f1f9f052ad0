use Rattle.std.proofs.Common.{◌≡◌, ◌<◌, ◌+◌, ◌-◌, ◌^◌, drop, length, map, min}
use Rattle.std.specs.List.{flat_map}
use Rattle.haya_people.specs.Roles.{roles_view}
use Rattle.haya_views.specs.Persons.{with_role}
use Rattle.haya_views.proofs.persons.all_names.Given as goal

-- those so far and those of the lists that are left are all
abbrev pub invariant-lists : goal.invariant-lists
invariant-lists l =
    (l.all < 2 ^ 64)
    × (min (l.all + length (flat_map with_role (drop l.list-index (map roles_view l.lists)))) (2 ^ 64 - 1)
    ≡ min (length (flat_map with_role (map roles_view l.lists))) (2 ^ 64 - 1))
