use Rattle.std.proofs.Common.{◌≡◌, ◌-◌, ◌<◌, ◌≤◌, ℕ, false, get_or, length}
use Rattle.haya_slices.specs.Sought.{AreSigns, is_sought}
use Rattle.haya_slices.proofs.signs.Signs.first.Given as goal

-- none of the bytes so far is sought
abbrev pub invariant-signs : goal.invariant-signs
invariant-signs l = record {
  signs : AreSigns l.bytes l.self;
  order : l.from ≤ l.self.start;
  none : (k : ℕ) → l.from ≤ k → k < l.self.start → is_sought l.sought (get_or l.bytes k 0) ≡ false;
}

abbrev pub decreases-signs : goal.decreases-signs
decreases-signs l = length l.bytes - l.self.start
