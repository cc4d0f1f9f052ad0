use Rattle.std.proofs.Common.{length, ◌≡◌, ◌+◌}
use Rattle.haya_yaml_text.specs.Turns.{plain_length}
use Rattle.haya_yaml_text.proofs.scalar.plain_length.Given as goal

abbrev pub invariant-signs : goal.invariant-signs
invariant-signs l =
    (l.count + length l.rest ≡ length l.bytes) × (l.count + plain_length l.style l.rest ≡ plain_length l.style l.bytes)

abbrev pub decreases-signs : goal.decreases-signs
decreases-signs l = length l.rest
