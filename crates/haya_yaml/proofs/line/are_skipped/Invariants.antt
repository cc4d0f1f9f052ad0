use Rattle.std.proofs.Common.{◌≡◌, drop}
use Rattle.haya_yaml.specs.Line.{are_skipped, texts}
use Rattle.haya_yaml.proofs.line.are_skipped.Given as goal

abbrev pub invariant-lines : goal.invariant-lines
invariant-lines l = are_skipped (texts (drop l.line-index l.lines)) ≡ are_skipped (texts l.lines)
