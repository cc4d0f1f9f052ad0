use Rattle.std.proofs.Common.{length, ◌-◌, ◌≡◌, ◌≤◌, drop}
use Rattle.haya_yaml_text.specs.Signs.{line_end}
use Rattle.haya_yaml_text.proofs.white.line_end.Given as goal

abbrev pub invariant-places : goal.invariant-places
invariant-places l = (l.place ≤ length l.text) × (line_end (drop l.place l.text) ≡ line_end l.text)

abbrev pub decreases-places : goal.decreases-places
decreases-places l = length l.bytes - l.place
