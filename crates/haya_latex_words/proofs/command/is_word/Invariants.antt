use Rattle.std.proofs.Common.{◌≡◌, drop}
use Rattle.std.specs.Str.{bytes_eq}
use Rattle.haya_latex_words.proofs.command.is_word.Given as goal

-- the words are the same where what is left of them is
abbrev pub invariant-bytes : goal.invariant-bytes
invariant-bytes l = bytes_eq l.word l.name ≡ bytes_eq l.left (drop l.byte-index l.name)
