use Rattle.std.proofs.Common.{◌≡◌, drop, map, string_bytes}
use Rattle.haya_bibtex_dates.specs.Digits.{short_number}
use Rattle.haya_bibtex_dates.specs.Years.{first_told}
use Rattle.haya_bibtex_dates.proofs.months.first_number.Given as goal

-- no word so far tells one
abbrev pub invariant-words : goal.invariant-words
invariant-words l =
    first_told short_number (map string_bytes l.words) ≡ first_told short_number (map string_bytes (drop l.word-index l.words))
