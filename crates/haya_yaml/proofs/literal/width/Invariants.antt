use Rattle.std.proofs.Common.{◌≡◌, drop}
use Rattle.haya_yaml.specs.Literal.{width}
use Rattle.haya_yaml.specs.Line.{texts}
use Rattle.haya_yaml.proofs.literal.width.Given as goal

abbrev pub invariant-lines : goal.invariant-lines
invariant-lines l = width l.edge l.longest (texts (drop l.line-index l.lines)) ≡ width l.edge 0 (texts l.lines)
