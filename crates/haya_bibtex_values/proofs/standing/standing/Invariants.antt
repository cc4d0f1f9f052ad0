use Rattle.std.proofs.Common.{◌≡◌, ◌++◌, length}
use Rattle.haya_bibtex_values.specs.Standing.{standing}
use Rattle.haya_bibtex_values.proofs.standing.standing.Given as goal

-- the characters so far, and those that the rest stands for, are all
abbrev pub invariant-pieces : goal.invariant-pieces
invariant-pieces l = standing l.text ≡ l.chars.items ++ standing l.left

abbrev pub decreases-pieces : goal.decreases-pieces
decreases-pieces l = length l.left
