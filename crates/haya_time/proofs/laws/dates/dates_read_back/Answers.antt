use Rattle.haya_time.proofs.DateReadsBack.{back}
use Rattle.haya_time.proofs.laws.dates.dates_read_back.Goals as goal

pub returns : goal.returns
returns c = back
