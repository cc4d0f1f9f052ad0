use Rattle.haya_entry.proofs.Equal.{serials-tell}
use Rattle.haya_entry.proofs.laws.serial_numbers_equal_by_value.Goals as goal

pub returns : goal.returns
returns c = serials-tell
