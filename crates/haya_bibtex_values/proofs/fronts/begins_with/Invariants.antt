use Rattle.std.proofs.Common.{◌≡◌, drop}
use Rattle.haya_bibtex_values.specs.Fronts.{begins_with}
use Rattle.haya_bibtex_values.proofs.fronts.begins_with.Given as goal

-- the text begins so if what is left begins with the rest
abbrev pub invariant-bytes : goal.invariant-bytes
invariant-bytes l = begins_with l.front l.text ≡ begins_with (drop l.byte-index l.front) l.left
