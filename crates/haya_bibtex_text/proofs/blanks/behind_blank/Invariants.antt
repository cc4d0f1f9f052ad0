use Rattle.std.proofs.Common.{◌≡◌, ◌≤◌, length, false}
use Rattle.haya_bibtex_text.specs.Blanks.{behind_blank, behind_blank_in}
use Rattle.haya_bibtex_text.proofs.blanks.behind_blank.Given as goal

-- what is left behind the blank is left behind that of the rest
abbrev pub invariant-characters : goal.invariant-characters
invariant-characters l = record {
  left : behind_blank l.text ≡ behind_blank_in false l.rest;
  shorter : length l.rest ≤ length l.text;
}

abbrev pub decreases-characters : goal.decreases-characters
decreases-characters l = length l.rest
