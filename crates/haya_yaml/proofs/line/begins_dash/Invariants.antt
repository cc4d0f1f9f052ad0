use Rattle.std.proofs.Common.{◌≡◌, drop}
use Rattle.haya_yaml.specs.Line.{begins_dash, texts}
use Rattle.haya_yaml.proofs.line.begins_dash.Given as goal

abbrev pub invariant-lines : goal.invariant-lines
invariant-lines l = begins_dash l.column (texts (drop l.line-index l.lines)) ≡ begins_dash l.column (texts l.lines)
