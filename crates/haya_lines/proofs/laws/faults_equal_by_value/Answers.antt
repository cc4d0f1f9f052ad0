use denote.Enum.Bare.{same_true, true_same}
use Rattle.haya_lines.specs.contracts.error.LineError.{the_type}
use Rattle.haya_lines.proofs.laws.faults_equal_by_value.Goals as goal

pub returns : goal.returns
returns c = λ a b. (same_true the_type tt a b, true_same the_type a b)
