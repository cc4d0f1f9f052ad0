-- The durations and ranges that are read back from their printed text.
use Rattle.std.specs.Prelude.{nat_lt, Bool, ◌&&◌}
use Rattle.haya_time.specs.declared.duration.Duration.{Duration}
use Rattle.haya_time.specs.declared.duration.range.DurationRange.{DurationRange}

-- no value is more than the next greater unit leaves
abbrev pub reads_back : Duration → Bool
reads_back d =
    nat_lt d.hours 24 && nat_lt d.minutes 60 && nat_lt d.seconds 60 && nat_lt d.milliseconds 1000

abbrev pub range_reads_back : DurationRange → Bool
range_reads_back r = reads_back r.start && reads_back r.end
