use Rattle.haya_numbers.proofs.EnumsEqual.{page_faults-tell, part_faults-tell}
use Rattle.haya_numbers.proofs.laws.pages.faults_equal_by_value.Goals as goal

pub returns : goal.returns
returns c = record { part = part_faults-tell; number = page_faults-tell }
