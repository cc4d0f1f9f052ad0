use Rattle.haya_numbers.proofs.Equal.{numeric-tells, value-tells}
use Rattle.haya_numbers.proofs.laws.equal_by_value.Goals as goal

pub returns : goal.returns
returns c = record { numeric = numeric-tells; value = value-tells }
