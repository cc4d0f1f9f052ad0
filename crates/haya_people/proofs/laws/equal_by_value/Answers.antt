use Rattle.haya_people.proofs.Equal.{persons-tell}
use Rattle.haya_people.proofs.laws.equal_by_value.Goals as goal

pub returns : goal.returns
returns c = persons-tell
