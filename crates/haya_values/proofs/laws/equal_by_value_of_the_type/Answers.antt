use Rattle.haya_values.proofs.Equal.{maybe_typed-tells, one_or_many-tells}
use Rattle.haya_values.proofs.laws.equal_by_value_of_the_type.Goals as goal

pub returns : goal.returns
returns g c = record {
  typed = maybe_typed-tells g.row.T g.T.PartialEq g.T.TryClone.view;
  many = one_or_many-tells g.row.T g.T.PartialEq g.T.TryClone.view;
}
