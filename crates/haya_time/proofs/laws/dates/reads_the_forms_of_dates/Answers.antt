use Rattle.haya_time.proofs.DateReadings.{read-reads, reads-read, read-refused, refused-read}
use Rattle.haya_time.proofs.laws.dates.reads_the_forms_of_dates.Goals as goal

pub returns : goal.returns
returns c = record {
  value = λ text d. (read-reads text d, reads-read text d);
  fault = λ text e. (read-refused text e, refused-read text e);
}
