use Rattle.std.proofs.Common.{◌≡◌, length, ◌-◌}
use Rattle.haya_slices.specs.Coming.{HasPassed}
use Rattle.haya_slices.proofs.coming.Search.pass.Given as goal

abbrev pub invariant-bytes : goal.invariant-bytes
invariant-bytes l =
    record {
      passed : HasPassed l.fn.brackets l.rest l.at l.mode l.depth;
      white : l.self.white ≡ l.fn.self.white;
    }

abbrev pub decreases-bytes : goal.decreases-bytes
decreases-bytes l = length l.rest - l.at
