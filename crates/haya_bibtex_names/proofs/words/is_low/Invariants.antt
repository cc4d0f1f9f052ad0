use Rattle.std.proofs.Common.{◌≡◌, drop}
use Rattle.haya_bibtex_names.specs.Words.{is_low}
use Rattle.haya_bibtex_names.proofs.words.is_low.Given as goal

-- the word is low if what is left of it is
abbrev pub invariant-chars : goal.invariant-chars
invariant-chars l = is_low l.word ≡ is_low (drop l.c-index l.word)
