use Rattle.std.proofs.Common.{◌≡◌, ◌+◌, drop}
use Rattle.std.specs.Char.{is_ascii_alphabetic}
use Rattle.haya_latex.specs.Scans.{run_length}
use Rattle.haya_latex.proofs.scans.word_length.Given as goal

-- the run is as long as the characters so far and that of the rest
abbrev pub invariant-chars : goal.invariant-chars
invariant-chars l = record {
  length : run_length is_ascii_alphabetic l.text ≡ l.count + run_length is_ascii_alphabetic (drop l.c-index l.text);
  count : l.count ≡ l.c-index;
}
