use Rattle.std.proofs.Common.{◌≡◌, ◌++◌, length}
use Rattle.haya_bibtex_names.specs.Words.{texts, words}
use Rattle.haya_bibtex_names.proofs.words.words_of.Given as goal

-- the words so far, and those of what is left, are all
abbrev pub invariant-words : goal.invariant-words
invariant-words l = texts l.words.items ++ words l.left ≡ words l.text

abbrev pub decreases-words : goal.decreases-words
decreases-words l = length l.left
