use Rattle.std.proofs.Common.{◌≡◌, true, false, drop}
use Rattle.haya_latex.proofs.LiteralTexts.{is_literal}
use Rattle.haya_latex.proofs.simple.is_literal.Given as goal

-- the whole is literal where the rest is
abbrev pub invariant-bytes : goal.invariant-bytes
invariant-bytes l = is_literal true false l.text ≡ is_literal l.blank l.hyphen (drop l.byte-index l.text)
