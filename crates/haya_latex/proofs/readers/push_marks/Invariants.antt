use Rattle.std.proofs.Common.{◌≡◌, ◌++◌, reverse, vec_len}
use Rattle.haya_latex.proofs.readers.push_marks.Given as goal

-- what is written and the marks that are left are all
abbrev pub invariant-marks : goal.invariant-marks
invariant-marks l = l.initial.chars.items ++ reverse l.initial.marks.items ≡ l.chars.items ++ reverse l.marks.items

abbrev pub decreases-marks : goal.decreases-marks
decreases-marks l = vec_len l.marks
