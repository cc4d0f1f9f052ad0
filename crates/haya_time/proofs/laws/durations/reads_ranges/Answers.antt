use Rattle.haya_time.proofs.DurationLaws.{range-reads-as, as-range-reads, range-reads-large, large-range-reads, malformed-range-reads, range-reads-malformed}
use Rattle.haya_time.proofs.laws.durations.reads_ranges.Goals as goal

pub returns : goal.returns
returns c = record {
  read = λ text r. (range-reads-as text r, as-range-reads text r);
  too_large = λ text. (range-reads-large text, large-range-reads text);
  malformed = λ text. (malformed-range-reads text, range-reads-malformed text);
}
