use Rattle.std.proofs.Common.{◌≡◌, ◌≤◌, false, length}
use Rattle.haya_bibtex_text.specs.Openings.{behind_at}
use Rattle.haya_bibtex_text.proofs.opening.behind_at.Given as goal

abbrev pub invariant-characters : goal.invariant-characters
invariant-characters l = record {
  left : behind_at false l.text ≡ behind_at l.remark l.rest;
  shorter : length l.rest ≤ length l.text;
}

abbrev pub decreases-characters : goal.decreases-characters
decreases-characters l = length l.rest
