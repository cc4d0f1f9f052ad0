use Rattle.std.proofs.Common.{◌≡◌, length}
use Rattle.haya_bibtex_values.specs.Addresses.{without_blanks}
use Rattle.haya_bibtex_values.proofs.addresses.without_blanks.Given as goal

-- what is left is the same without its blanks
abbrev pub invariant-chars : goal.invariant-chars
invariant-chars l = without_blanks l.text ≡ without_blanks l.left

abbrev pub decreases-chars : goal.decreases-chars
decreases-chars l = length l.left
