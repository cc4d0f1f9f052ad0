use Rattle.std.proofs.Common.{◌≡◌, ◌+◌, drop}
use Rattle.haya_latex.specs.Scans.{white_length}
use Rattle.haya_latex.proofs.scans.white_length.Given as goal

-- the run is as long as the characters so far and that of the rest
abbrev pub invariant-chars : goal.invariant-chars
invariant-chars l = record {
  length : white_length l.text ≡ l.count + white_length (drop l.c-index l.text);
  count : l.count ≡ l.c-index;
}
