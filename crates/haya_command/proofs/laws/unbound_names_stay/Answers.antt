use Rattle.haya_command.proofs.BoundNames.{never_bound}
use Rattle.haya_command.proofs.laws.unbound_names_stay.Goals as goal

pub returns : goal.returns
returns c = λ s x hit name is not. never_bound s x hit name is not
