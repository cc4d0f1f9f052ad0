use Rattle.std.proofs.Common.{refl}
use Rattle.haya_questions.specs.Test.{holds}
use Rattle.haya_questions.proofs.laws.opposites.Goals as goal

pub returns-clause-is : goal.returns-clause-is
unfolding holds
returns-clause-is c = λ place wanted hit. refl

pub returns-clause-has : goal.returns-clause-has
unfolding holds
returns-clause-has c = λ place wanted hit. refl
