use Rattle.std.proofs.Common.{◌≡◌, ◌++◌, drop}
use Rattle.haya_bibtex_names.specs.Lists.{with_blanks}
use Rattle.haya_bibtex_names.specs.Words.{texts}
use Rattle.haya_bibtex_names.proofs.lists.with_blanks.Given as goal

-- the text so far, and that of the rest, is the whole
abbrev pub invariant-words : goal.invariant-words
invariant-words l = with_blanks (texts l.words) ≡ l.text.items ++ with_blanks (texts (drop l.word-index l.words))
