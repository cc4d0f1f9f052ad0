use Rattle.haya_time.proofs.DurationBacks.{duration-read_back, range-read_back}
use Rattle.haya_time.proofs.laws.durations.reads_back.Goals as goal

pub returns : goal.returns
returns c = record { duration = duration-read_back; range = range-read_back }
