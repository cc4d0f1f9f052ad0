use Rattle.std.proofs.Common.{◌≡◌, true, drop}
use Rattle.haya_latex.specs.Simple.{is_simple}
use Rattle.haya_latex.proofs.simple.is_simple.Given as goal

-- the whole is simple where the rest is
abbrev pub invariant-bytes : goal.invariant-bytes
invariant-bytes l = is_simple true l.text ≡ is_simple l.behind (drop l.byte-index l.text)
