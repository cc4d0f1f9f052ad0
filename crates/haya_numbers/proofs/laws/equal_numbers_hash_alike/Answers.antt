use Rattle.haya_numbers.specs.contracts.numeric.NumericHash.TheImpl.Laws as numeric
use Rattle.haya_numbers.specs.contracts.numeric.NumericValueHash.TheImpl.Laws as value
use Rattle.haya_numbers.proofs.laws.equal_numbers_hash_alike.Goals as goal

pub returns-clause-numeric : goal.returns-clause-numeric
returns-clause-numeric c = numeric.respects_eq-law

pub returns-clause-value : goal.returns-clause-value
returns-clause-value c = value.respects_eq-law
