use Rattle.std.proofs.Common.{◌≡◌, length}
use Rattle.haya_latex.specs.Reading.{write}
use Rattle.haya_latex.specs.ReadingViews.{reader_view}
use Rattle.haya_latex.specs.Simple.{of_kind, quiet_front, quiet_rest}
use Rattle.haya_latex.proofs.text.put_quiet.Given as goal

-- what is written and what the rest writes is all, and the same is left
abbrev pub invariant-chars : goal.invariant-chars
invariant-chars l = record {
  written : write (of_kind l.kind (quiet_front l.left)) (reader_view l.reader)
      ≡ write (of_kind l.kind (quiet_front l.text)) (reader_view l.initial.reader);
  left : quiet_rest l.left ≡ quiet_rest l.text;
}

abbrev pub decreases-chars : goal.decreases-chars
decreases-chars l = length l.left
