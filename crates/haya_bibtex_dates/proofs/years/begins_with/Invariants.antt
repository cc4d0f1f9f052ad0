use Rattle.std.proofs.Common.{◌≡◌, drop}
use Rattle.haya_bibtex_dates.specs.Years.{begins_with}
use Rattle.haya_bibtex_dates.proofs.years.begins_with.Given as goal

-- the text begins with the word if what is left begins with the rest of it
abbrev pub invariant-chars : goal.invariant-chars
invariant-chars l = begins_with l.word l.text ≡ begins_with (drop l.c-index l.word) l.left
