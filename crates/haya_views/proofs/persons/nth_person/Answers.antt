use Rattle.std.proofs.Common.{map, ap, sym, ◌∙◌}
use Rattle.std.specs.Prelude.{option_map}
use Rattle.std.proofs.lemmas.Option.{slice_get-map}
use Rattle.haya_people.specs.Person.{person_view}
use Rattle.haya_views.specs.Persons.{without_role}
use Rattle.haya_views.proofs.persons.nth_person.Goals as goal

pub returns-in-Some : goal.returns-in-Some
returns-in-Some c =
    sym
    (slice_get-map without_role (map person_view c.args.persons.now) c.args.place
    ∙ ap (option_map without_role) (sym c.person_in.ensures ∙ ap (option_map (λ p. person_view p.now)) c.in-Some.is))

pub returns-in-None : goal.returns-in-None
returns-in-None c =
    sym
    (slice_get-map without_role (map person_view c.args.persons.now) c.args.place
    ∙ ap (option_map without_role) (sym c.person_in.ensures ∙ ap (option_map (λ p. person_view p.now)) c.in-None.is))
