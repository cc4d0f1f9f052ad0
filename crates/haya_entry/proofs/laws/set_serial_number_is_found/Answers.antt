use Rattle.haya_entry.specs.Tree.{node}
use Rattle.haya_entry.proofs.SerialLemmas.{serial_text-with_serial}
use Rattle.haya_entry.proofs.laws.set_serial_number_is_found.Goals as goal

pub returns : goal.returns
returns c key text other (node f ps) = serial_text-with_serial other key text f.serial_number
