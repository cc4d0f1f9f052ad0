use Rattle.std.proofs.Common.{◌≡◌, drop, map, slice_get}
use Rattle.std.specs.List.{flat_map}
use Rattle.haya_people.specs.Roles.{roles_view}
use Rattle.haya_views.specs.Persons.{with_role}
use Rattle.haya_views.proofs.persons.name_at.Given as goal

-- what is asked is so far behind in the lists that are left
abbrev pub invariant-lists : goal.invariant-lists
invariant-lists l =
    slice_get (flat_map with_role (map roles_view l.lists)) l.place
    ≡ slice_get (flat_map with_role (drop l.list-index (map roles_view l.lists))) l.left
