use Rattle.std.proofs.Common.{◌≡◌, drop}
use Rattle.haya_bibtex_names.specs.Extended.{first_value}
use Rattle.haya_bibtex_names.specs.Words.{texts}
use Rattle.haya_bibtex_names.proofs.extended.first_value.Given as goal

-- no part so far has the word
abbrev pub invariant-parts : goal.invariant-parts
invariant-parts l = first_value l.word (texts l.parts) ≡ first_value l.word (texts (drop l.part-index l.parts))
