use Rattle.std.proofs.Common.{◌≡◌, ◌+◌}
use Rattle.haya_selectors.specs.Evaluation.{turned}
use Rattle.haya_selectors.proofs.simple.turned.Given as goal

abbrev pub invariant-signs : goal.invariant-signs
invariant-signs l = (turned l.left l.result ≡ turned l.fn.signs l.fn.value) × (l.steps + l.left ≡ l.fn.steps + l.fn.signs)

abbrev pub decreases-signs : goal.decreases-signs
decreases-signs l = l.left
