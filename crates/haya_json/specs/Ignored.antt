-- The names that are counted of what is told.
use Rattle.haya_json.specs.Tally.{Counts, by_bytes}
use Rattle.haya_json.specs.declared.ignored.Ignored.{Ignored}

-- the names that are counted, each with how often it came
abbrev pub counts_of : Ignored → Counts
counts_of ignored = by_bytes ignored.counts.entries
