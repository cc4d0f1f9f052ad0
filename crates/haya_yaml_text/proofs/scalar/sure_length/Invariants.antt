use Rattle.std.proofs.Common.{◌≡◌, ◌+◌, ◌-◌, ◌≤◌, length, drop}
use Rattle.haya_yaml_text.specs.Turns.{plain_length}
use Rattle.haya_yaml_text.specs.declared.scalar.Style.TheVariants.{Plain}
use Rattle.haya_yaml_text.proofs.scalar.sure_length.Given as goal

abbrev pub invariant-lanes : goal.invariant-lanes
invariant-lanes l = (l.count ≤ length l.bytes) × (plain_length Plain l.bytes ≡ l.count + plain_length Plain (drop l.count l.bytes))

abbrev pub decreases-lanes : goal.decreases-lanes
decreases-lanes l = length l.bytes - l.count

abbrev pub invariant-signs : goal.invariant-signs
invariant-signs l = (l.count ≤ length l.bytes) × (plain_length Plain l.bytes ≡ l.count + plain_length Plain (drop l.count l.bytes))

abbrev pub decreases-signs : goal.decreases-signs
decreases-signs l = length l.bytes - l.count
