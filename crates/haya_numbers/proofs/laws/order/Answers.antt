use Rattle.std.specs.Cmp.{on_total, int_cmp_total}
use Rattle.std.specs.Cmp.Lexicographic.{lists_total}
use Rattle.haya_numbers.specs.Numeric.{NumericView, numbers}
use Rattle.haya_numbers.proofs.laws.order.Goals as goal

pub returns : goal.returns
returns c = on_total (λ (n : NumericView). numbers n.value) (lists_total int_cmp_total)
