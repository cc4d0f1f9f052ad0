use Rattle.haya_people.proofs.Beginnings.{particle-is_one, particle-longest, no-particle}
use Rattle.haya_people.proofs.laws.orders.particles_are_longest.Goals as goal

pub returns : goal.returns
returns c = record { one = particle-is_one; longest = particle-longest; none = no-particle }
