use Rattle.std.proofs.Common.{◌≡◌, ◌≤◌, length}
use Rattle.haya_yaml.specs.Documents.{is_printable}
use Rattle.haya_yaml.proofs.controls.pass_harmless.Given as goal

abbrev pub invariant-lanes : goal.invariant-lanes
invariant-lanes l = (is_printable l.rest ≡ is_printable l.bytes) × (length l.rest ≤ length l.bytes)

abbrev pub decreases-lanes : goal.decreases-lanes
decreases-lanes l = length l.rest
