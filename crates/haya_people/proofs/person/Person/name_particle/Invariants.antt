use Rattle.std.proofs.Common.{◌≡◌, length}
use Rattle.std.specs.Prelude.{string_bytes}
use Rattle.haya_people.specs.Particles.{name_particle}
use Rattle.haya_people.specs.Tables.{texts}
use Rattle.haya_people.proofs.person.Person.name_particle.Given as goal
use denote.Shadow.{shadow}
use denote.Text.{Utf8}

abbrev pub invariant-shorter : goal.invariant-shorter
invariant-shorter l = shadow (Utf8 l.name) × (name_particle (texts l.table) l.name ≡ name_particle (texts l.table) (string_bytes l.self.name))

abbrev pub decreases-shorter : goal.decreases-shorter
decreases-shorter l = length l.name
