use Rattle.std.proofs.Common.{◌≡◌, drop}
use Rattle.haya_yaml.specs.Line.{are_deeper, texts}
use Rattle.haya_yaml.proofs.line.are_deeper.Given as goal

abbrev pub invariant-lines : goal.invariant-lines
invariant-lines l = are_deeper l.edge (texts (drop l.line-index l.lines)) ≡ are_deeper l.edge (texts l.lines)
