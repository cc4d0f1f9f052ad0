use Rattle.std.proofs.Common.{length, ◌-◌, ◌≡◌, ◌+◌, ◌≤◌, drop}
use Rattle.haya_yaml_text.specs.Signs.{blanks}
use Rattle.haya_yaml_text.proofs.white.blanks.Given as goal

abbrev pub invariant-blanks : goal.invariant-blanks
invariant-blanks l = (l.count ≤ length l.text) × (l.count + blanks l.tabs (drop l.count l.text) ≡ blanks l.tabs l.text)

abbrev pub decreases-blanks : goal.decreases-blanks
decreases-blanks l = length l.bytes - l.count
