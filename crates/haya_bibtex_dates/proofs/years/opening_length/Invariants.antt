use Rattle.std.proofs.Common.{◌≡◌, ◌+◌, drop}
use Rattle.std.specs.List.{prefix_len}
use Rattle.haya_bibtex_dates.specs.Years.{is_opening}
use Rattle.haya_bibtex_dates.proofs.years.opening_length.Given as goal

-- the run is as long as the characters so far and that of the rest
abbrev pub invariant-chars : goal.invariant-chars
invariant-chars l = record {
  length : prefix_len is_opening l.text ≡ l.count + prefix_len is_opening (drop l.c-index l.text);
  count : l.count ≡ l.c-index;
}
