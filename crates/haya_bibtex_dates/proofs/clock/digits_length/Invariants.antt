use Rattle.std.proofs.Common.{◌≡◌, ◌+◌, drop}
use Rattle.haya_bibtex_dates.specs.Clock.{digits_length}
use Rattle.haya_bibtex_dates.proofs.clock.digits_length.Given as goal

-- the run is as long as the characters so far and that of the rest
abbrev pub invariant-chars : goal.invariant-chars
invariant-chars l = record {
  length : digits_length l.text ≡ l.count + digits_length (drop l.c-index l.text);
  count : l.count ≡ l.c-index;
}
