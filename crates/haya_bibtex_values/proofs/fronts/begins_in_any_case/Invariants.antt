use Rattle.std.proofs.Common.{◌≡◌, drop}
use Rattle.haya_bibtex_values.specs.Fronts.{begins_in_any_case}
use Rattle.haya_bibtex_values.proofs.fronts.begins_in_any_case.Given as goal

-- the text begins so if what is left begins with the rest
abbrev pub invariant-bytes : goal.invariant-bytes
invariant-bytes l = begins_in_any_case l.front l.text ≡ begins_in_any_case (drop l.byte-index l.front) l.left
