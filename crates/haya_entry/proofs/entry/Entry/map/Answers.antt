use Rattle.std.proofs.Common.{◌+◌, refl}
use Rattle.haya_entry.specs.Levels.{first_answers, rest_asked}
use Rattle.haya_entry.proofs.entry.Entry.map.Goals as goal

pub returns-in-Some : goal.returns-in-Some
returns-in-Some g c = (1, _, first_answers refl (rw c.in-Some.is at c.f.ensures))

pub returns-in-None : goal.returns-in-None
returns-in-None g c =
    let rest = c.map_parents.ensures in
    (1 + rest.0, rest.1, rest_asked refl (rw c.in-None.is at c.f.ensures) rest.2)
