use Rattle.std.proofs.Common.{◌≡◌, ◌++◌, drop, map}
use Rattle.haya_people.specs.Person.{person_view}
use Rattle.haya_questions.specs.Value.{PersonValue, value_view}
use Rattle.haya_questions.proofs.fields.push_persons.Given as goal

-- the values so far and those of what is left are all
abbrev pub invariant-persons : goal.invariant-persons
invariant-persons l =
    map value_view l.values.items ++ map PersonValue (map (λ p. person_view p.now) (drop l.person-index l.persons))
    ≡ map value_view l.initial.values.items ++ map PersonValue (map (λ p. person_view p.now) l.persons)
