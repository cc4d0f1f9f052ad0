use Rattle.std.proofs.Common.{◌≡◌, ◌++◌}
use Rattle.std.specs.Prelude.{replicate, string_bytes}
use Rattle.haya_yaml_text.proofs.scalar.push_feeds.Given as goal

abbrev pub invariant-feeds : goal.invariant-feeds
invariant-feeds l = string_bytes l.out ++ replicate l.left 10 ≡ string_bytes l.initial.out ++ replicate l.count 10

abbrev pub decreases-feeds : goal.decreases-feeds
decreases-feeds l = l.left
