use Rattle.haya_text.proofs.Equal.{kinds-tell, foldable_kinds-tell, forms-tell}
use Rattle.haya_text.proofs.laws.kinds_equal_by_value.Goals as goal

pub returns : goal.returns
returns c = record { chunk = kinds-tell; foldable = foldable_kinds-tell; form = forms-tell }
