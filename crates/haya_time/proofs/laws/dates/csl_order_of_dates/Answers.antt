use Rattle.haya_time.specs.DateOrderLaws.{csl_total}
use Rattle.haya_time.proofs.laws.dates.csl_order_of_dates.Goals as goal

pub returns : goal.returns
returns c = csl_total
