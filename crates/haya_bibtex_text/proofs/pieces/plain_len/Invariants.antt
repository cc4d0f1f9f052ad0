use Rattle.std.proofs.Common.{◌≡◌, ◌+◌, length}
use Rattle.std.specs.List.{prefix_len}
use Rattle.haya_bibtex_text.proofs.Plain.{is_plain}
use Rattle.haya_bibtex_text.proofs.pieces.plain_len.Given as goal

-- the characters so far are plain
abbrev pub invariant-runs : goal.invariant-runs
invariant-runs l = record {
  plain : prefix_len is_plain l.text ≡ l.count + prefix_len is_plain l.rest;
  within : l.count + length l.rest ≡ length l.text;
}

abbrev pub decreases-runs : goal.decreases-runs
decreases-runs l = length l.rest
