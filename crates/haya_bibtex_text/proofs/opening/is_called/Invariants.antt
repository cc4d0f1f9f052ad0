use Rattle.std.proofs.Common.{◌≡◌, length}
use Rattle.haya_bibtex_text.specs.Openings.{is_called}
use Rattle.haya_bibtex_text.proofs.opening.is_called.Given as goal

-- the letters so far agree
abbrev pub invariant-letters : goal.invariant-letters
invariant-letters l = is_called l.word l.name ≡ is_called l.letters l.left

abbrev pub decreases-letters : goal.decreases-letters
decreases-letters l = length l.letters
