use Rattle.std.proofs.Common.{◌≡◌, ℕ, List, ◌++◌, drop, map}
use Rattle.std.specs.Prelude.{string_bytes}
use Rattle.haya_people.specs.Person.{person_view}
use Rattle.haya_people.specs.Roles.{role_view}
use Rattle.haya_printing.specs.Printed.{role_items}
use Rattle.haya_printing.proofs.texts.push_in_role.Given as goal

-- what is pushed and what is left are what was pushed and all
abbrev pub invariant-persons : goal.invariant-persons
invariant-persons l =
    (rest : List ℕ) → string_bytes l.line ++ role_items (role_view l.role) (map person_view (drop l.person-index l.persons)) rest
    ≡ string_bytes l.initial.line ++ role_items (role_view l.role) (map person_view l.persons) rest
