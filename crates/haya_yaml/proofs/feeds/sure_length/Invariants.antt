use Rattle.std.proofs.Common.{◌≡◌, ◌+◌, ◌-◌, ◌≤◌, length, drop}
use Rattle.std.specs.List.{position_or_len}
use Rattle.haya_yaml.specs.Line.{is_feed}
use Rattle.haya_yaml.proofs.feeds.sure_length.Given as goal

abbrev pub invariant-lanes : goal.invariant-lanes
invariant-lanes l = (l.count ≤ length l.bytes) × (position_or_len is_feed l.bytes ≡ l.count + position_or_len is_feed (drop l.count l.bytes))

abbrev pub decreases-lanes : goal.decreases-lanes
decreases-lanes l = length l.bytes - l.count
