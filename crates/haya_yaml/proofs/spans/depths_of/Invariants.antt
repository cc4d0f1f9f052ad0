use Rattle.std.proofs.Common.{◌≡◌, map, take}
use Rattle.haya_yaml.specs.Line.{texts}
use Rattle.haya_yaml.proofs.Depths.{fresh}
use Rattle.haya_yaml.proofs.spans.depths_of.Given as goal

abbrev pub invariant-lines : goal.invariant-lines
invariant-lines l = l.spans.items ≡ map fresh (texts (take l.line-index l.lines))
