use Rattle.std.proofs.Common.{◌≡◌, drop, map, string_bytes}
use Rattle.haya_bibtex_dates.specs.Months.{named_in, seasons}
use Rattle.haya_bibtex_dates.specs.Years.{first_told}
use Rattle.haya_bibtex_dates.proofs.months.first_season.Given as goal

-- no word so far tells one
abbrev pub invariant-words : goal.invariant-words
invariant-words l =
    first_told (named_in seasons) (map string_bytes l.words) ≡ first_told (named_in seasons) (map string_bytes (drop l.word-index l.words))
