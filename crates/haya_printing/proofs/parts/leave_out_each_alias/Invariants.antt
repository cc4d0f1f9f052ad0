use Rattle.std.proofs.Common.{◌≡◌, ◌++◌, drop, map, take}
use Rattle.haya_people.specs.Person.{person_view}
use Rattle.haya_printing.specs.Parts.{without_alias}
use Rattle.haya_printing.proofs.parts.leave_out_each_alias.Given as goal

-- those so far have no alias, and the others are as they were
abbrev pub invariant-people : goal.invariant-people
invariant-people l =
    map person_view (take l.person-index l.people) ++ map without_alias (map person_view (drop l.person-index l.people))
    ≡ map without_alias (map person_view l.initial.people)
