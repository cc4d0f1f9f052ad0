use Rattle.std.proofs.Common.{◌≡◌, ◌++◌, drop, map, take}
use Rattle.haya_people.specs.Roles.{roles_view}
use Rattle.haya_printing.specs.Parts.{without_aliases}
use Rattle.haya_printing.proofs.parts.leave_out_alias_in_each.Given as goal

-- those so far have no alias, and the others are as they were
abbrev pub invariant-roles : goal.invariant-roles
invariant-roles l =
    map roles_view (take l.persons-index l.roles) ++ map without_aliases (map roles_view (drop l.persons-index l.roles))
    ≡ map without_aliases (map roles_view l.initial.roles)
