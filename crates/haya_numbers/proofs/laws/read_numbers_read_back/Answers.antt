use Rattle.haya_numbers.proofs.KeptNumbers.{number_kept, single_readable}
use Rattle.haya_numbers.proofs.laws.read_numbers_read_back.Goals as goal

pub returns : goal.returns
returns c = record { kept = number_kept; bounds = single_readable }
