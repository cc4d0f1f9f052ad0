use Rattle.std.proofs.Common.{◌≡◌, drop}
use Rattle.haya_bibtex_values.proofs.Plain.{all_plain}
use Rattle.haya_bibtex_values.proofs.standing.is_plain.Given as goal

-- the whole is plain where the rest is
abbrev pub invariant-bytes : goal.invariant-bytes
invariant-bytes l = all_plain l.text ≡ all_plain (drop l.byte-index l.text)
