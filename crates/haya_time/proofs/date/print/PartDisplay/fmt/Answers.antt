use Rattle.std.proofs.Common.{refl}
use Rattle.haya_time.proofs.PrintedParts.{written_as, padded}
use Rattle.haya_time.proofs.date.print.PartDisplay.fmt.Goals as goal

pub returns-clause-writes : goal.returns-clause-writes
returns-clause-writes g c = λ plain ok. written_as _ _ (rw (padded, c.counted_from_one-n.ensures) refl) ((rw c.laid_out.ensures at c.write.ensures.writes) plain ok)
