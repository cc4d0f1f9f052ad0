use Rattle.haya_people.proofs.Beginnings.{particle-boundary}
use Rattle.std.proofs.Common.{sym, ◌∙◌, ap, ◌≡◌, Some}
use Rattle.std.specs.Prelude.{string_bytes}
use Rattle.std.specs.Option.{option_copied}
use Rattle.haya_people.specs.Tables.{texts}
use Rattle.haya_people.specs.Particles.{name_particle}
use Rattle.haya_people.proofs.person.Person.name_without_particle.Goals as goal

pub range_from-requires : goal.range_from-requires
range_from-requires c =
    let name_is = c.as_str-name.ensures.value in
    let e : name_particle (texts c.args.table.now) (string_bytes c.args.self.now.name) ≡ Some c.in-Some.particle.now = sym c.in_ok-particle.ensures ∙ ap option_copied c.in-Some.is in
    λ _. rw name_is (particle-boundary (texts c.args.table.now) (string_bytes c.args.self.now.name) c.in-Some.particle.now e)
