use Rattle.std.proofs.Common.{rules}
use Rattle.haya_time.proofs.PrintedParts.{written_as, padded}
use Rattle.haya_time.proofs.date.print.YearDigitsDisplay.fmt.Goals as goal

pub returns-clause-writes : goal.returns-clause-writes
returns-clause-writes g c = λ plain ok. written_as _ _ (rw (padded, c.sign_of-sign.ensures, c.distance_from_zero-distance.ensures) (search rules)) ((rw c.laid_out.ensures at c.write.ensures.writes) plain ok)
