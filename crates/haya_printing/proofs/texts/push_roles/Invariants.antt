use Rattle.std.proofs.Common.{◌≡◌, ℕ, List, ◌++◌, drop, map}
use Rattle.std.specs.Prelude.{string_bytes}
use Rattle.haya_people.specs.Roles.{roles_view}
use Rattle.haya_printing.specs.Printed.{roles_items}
use Rattle.haya_printing.proofs.texts.push_roles.Given as goal

-- what is pushed and what is left are what was pushed and all
abbrev pub invariant-affiliated : goal.invariant-affiliated
invariant-affiliated l =
    (rest : List ℕ) → string_bytes l.line ++ roles_items (map roles_view (drop l.persons-index l.affiliated)) rest
    ≡ string_bytes l.initial.line ++ roles_items (map roles_view l.affiliated) rest
