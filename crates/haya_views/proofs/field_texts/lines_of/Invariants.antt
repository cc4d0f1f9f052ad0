use Rattle.std.proofs.Common.{◌≡◌, ◌++◌, drop, map}
use Rattle.std.specs.Prelude.{string_bytes}
use Rattle.haya_people.specs.Person.{person_view}
use Rattle.haya_views.specs.FieldTexts.{people_text}
use Rattle.haya_views.proofs.field_texts.lines_of.Given as goal

-- what is written and what is left are all
abbrev pub invariant-people : goal.invariant-people
invariant-people l =
    string_bytes l.lines ++ people_text (map person_view (drop l.person-index l.people))
    ≡ people_text (map person_view l.people)
