use Rattle.std.proofs.Common.{rules}
use Rattle.haya_people.specs.Particles.{folded}
use Rattle.haya_asked.proofs.values.folded.Goals as goal

pub returns : goal.returns
unfolding folded
returns c = search rules
