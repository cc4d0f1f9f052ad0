use Rattle.std.proofs.Common.{◌≡◌, ◌+◌, ◌-◌, ◌<◌, length, drop, true}
use Rattle.haya_yaml.specs.Line.{texts}
use Rattle.haya_yaml.specs.Spans.{are_as_deep}
use Rattle.haya_yaml.proofs.spans.as_deep.Given as goal

abbrev pub invariant-lines : goal.invariant-lines
invariant-lines l = (l.place < l.next) × (are_as_deep l.depth (l.next - (l.place + 1)) (texts (drop (l.place + 1) l.lines)) ≡ true)

abbrev pub decreases-lines : goal.decreases-lines
decreases-lines l = length l.spans - l.next
