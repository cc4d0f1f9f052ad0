use Rattle.std.proofs.Common.{◌≡◌, length}
use Rattle.haya_csl.specs.Kinds.{says}
use Rattle.haya_csl.proofs.kinds.says.Given as goal

-- the word appears in the text just where it appears in what is left
abbrev pub invariant-starts : goal.invariant-starts
invariant-starts l = says l.word l.text ≡ says l.word l.rest

abbrev pub decreases-starts : goal.decreases-starts
decreases-starts l = length l.rest
