use Rattle.haya_time.proofs.DurationLaws.{reads-as, as-reads, reads-large, large-reads, malformed-reads, reads-malformed}
use Rattle.haya_time.proofs.laws.durations.reads_durations.Goals as goal

pub returns : goal.returns
returns c = record {
  read = λ text d. (reads-as text d, as-reads text d);
  too_large = λ text. (reads-large text, large-reads text);
  malformed = λ text. (malformed-reads text, reads-malformed text);
}
