use Rattle.std.proofs.Common.{◌≡◌, drop}
use Rattle.haya_yaml.specs.Documents.{are_ended}
use Rattle.haya_yaml.specs.Line.{texts}
use Rattle.haya_yaml.proofs.document.are_ended.Given as goal

abbrev pub invariant-lines : goal.invariant-lines
invariant-lines l = are_ended (texts (drop l.line-index l.lines)) ≡ are_ended (texts l.lines)
