use Rattle.std.proofs.Common.{◌≡◌, ◌-◌, ◌≤◌, ℕ, Option, length, drop}
use Rattle.haya_yaml.specs.Block.{Node, below}
use Rattle.haya_yaml.specs.Line.{texts}
use Rattle.haya_yaml.proofs.line.skipped.Given as goal

abbrev pub invariant-lines : goal.invariant-lines
invariant-lines l =
    (l.count ≤ length l.lines) × ((node : Node) → (edge : Option ℕ) → below node edge (texts l.lines) ≡ below node edge (texts (drop l.count l.lines)))

abbrev pub decreases-lines : goal.decreases-lines
decreases-lines l = length l.lines - l.count
