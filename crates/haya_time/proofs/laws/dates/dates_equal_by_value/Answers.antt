use Rattle.haya_time.specs.DateEquality.{dates-tell}
use Rattle.haya_time.proofs.laws.dates.dates_equal_by_value.Goals as goal

pub returns : goal.returns
returns c = dates-tell
