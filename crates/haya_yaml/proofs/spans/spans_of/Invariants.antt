use Rattle.std.proofs.Common.{◌≡◌, ◌≤◌, length, true}
use Rattle.haya_yaml.specs.Spans.{have_spans}
use Rattle.haya_yaml.proofs.spans.spans_of.Given as goal

abbrev pub invariant-spans : goal.invariant-spans
invariant-spans l = (l.place ≤ length l.spans.items) × (have_spans l.spans.items l.lines ≡ true)

abbrev pub decreases-spans : goal.decreases-spans
decreases-spans l = l.place
