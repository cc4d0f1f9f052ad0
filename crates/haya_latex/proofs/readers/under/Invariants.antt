use Rattle.std.proofs.Common.{◌≡◌, ◌++◌, reverse, vec_len}
use Rattle.haya_latex.specs.Reading.{under}
use Rattle.haya_latex.proofs.readers.under.Given as goal

-- the accents that are left are on the letter so far, and the marks so far follow
abbrev pub invariant-accents : goal.invariant-accents
invariant-accents l = under (reverse l.initial.waiting.items) l.fn.c l.kind ≡ under (reverse l.waiting.items) l.letter l.kind ++ reverse l.marks.items

abbrev pub decreases-accents : goal.decreases-accents
decreases-accents l = vec_len l.waiting
