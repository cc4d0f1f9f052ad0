use Rattle.std.proofs.Common.{◌≡◌, length}
use Rattle.haya_latex.specs.Texts.{behind_blanks}
use Rattle.haya_latex.proofs.runs.behind_blanks.Given as goal

-- the same is left behind the blanks of the rest
abbrev pub invariant-chars : goal.invariant-chars
invariant-chars l = behind_blanks l.left ≡ behind_blanks l.chars

abbrev pub decreases-chars : goal.decreases-chars
decreases-chars l = length l.left
