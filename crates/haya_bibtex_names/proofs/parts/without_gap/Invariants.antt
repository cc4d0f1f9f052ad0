use Rattle.std.proofs.Common.{◌≡◌, length}
use Rattle.haya_bibtex_names.specs.Parts.{without_end}
use Rattle.haya_bibtex_names.specs.Signs.{is_gap}
use Rattle.haya_bibtex_names.proofs.parts.without_gap.Given as goal

-- what is left has the same text without its end
abbrev pub invariant-chars : goal.invariant-chars
invariant-chars l = without_end is_gap l.text ≡ without_end is_gap l.left

abbrev pub decreases-chars : goal.decreases-chars
decreases-chars l = length l.left
