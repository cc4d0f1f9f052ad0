use Rattle.std.proofs.Common.{◌≡◌, ◌+◌, drop}
use Rattle.std.specs.List.{position_or_len}
use Rattle.haya_bibtex_dates.specs.Months.{is_dash}
use Rattle.haya_bibtex_dates.proofs.months.dash_place.Given as goal

-- the dash is as many characters behind those so far as it is in the rest
abbrev pub invariant-chars : goal.invariant-chars
invariant-chars l = record {
  length : position_or_len is_dash l.word ≡ l.count + position_or_len is_dash (drop l.c-index l.word);
  count : l.count ≡ l.c-index;
}
