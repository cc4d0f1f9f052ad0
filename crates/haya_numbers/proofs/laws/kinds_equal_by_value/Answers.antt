use Rattle.haya_numbers.proofs.EnumsEqual.{delimiters-tell, forms-tell, genders-tell, number_faults-tell}
use Rattle.haya_numbers.proofs.laws.kinds_equal_by_value.Goals as goal

pub returns : goal.returns
returns c = record {
  delimiter = delimiters-tell;
  form = forms-tell;
  gender = genders-tell;
  fault = number_faults-tell;
}
