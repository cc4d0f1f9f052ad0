use Rattle.std.proofs.Common.{◌≡◌, ◌≤◌, ◌+◌, drop}
use Rattle.haya_latex.specs.Scans.{inner_length}
use Rattle.haya_latex.proofs.scans.inner_length.Given as goal

-- the text in the group is as long as the characters so far and the rest of it
abbrev pub invariant-chars : goal.invariant-chars
invariant-chars l = record {
  length : inner_length l.depth l.text ≡ l.count + inner_length l.braces (drop l.c-index l.text);
  count : l.count ≡ l.c-index;
  braces : l.braces ≤ l.depth + l.c-index;
}
