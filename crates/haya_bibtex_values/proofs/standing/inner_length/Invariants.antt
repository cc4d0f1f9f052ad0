use Rattle.std.proofs.Common.{◌≡◌, ◌+◌, ◌≤◌, drop}
use Rattle.haya_bibtex_values.specs.Standing.{inner_length}
use Rattle.haya_bibtex_values.proofs.standing.inner_length.Given as goal

-- the text in the braces is as long as the characters so far and the rest of it
abbrev pub invariant-chars : goal.invariant-chars
invariant-chars l = record {
  length : inner_length 0 l.text ≡ l.count + inner_length l.depth (drop l.c-index l.text);
  count : l.count ≡ l.c-index;
  depth : l.depth ≤ l.c-index;
}
