use Rattle.std.proofs.Common.{◌≡◌, ◌-◌, ◌<◌, ◌≤◌, ℕ, false, get_or, length}
use Rattle.haya_slices.specs.Sought.{AreSigns, is_sign}
use Rattle.haya_slices.proofs.signs.Signs.next.Given as goal

-- none of the bytes so far is a sign
abbrev pub invariant-signs : goal.invariant-signs
invariant-signs l = record {
  signs : AreSigns l.bytes l.self;
  order : l.initial.self.start ≤ l.self.start;
  none : (k : ℕ) → l.initial.self.start ≤ k → k < l.self.start → is_sign (get_or l.bytes k 0) ≡ false;
}

abbrev pub decreases-signs : goal.decreases-signs
decreases-signs l = length l.bytes - l.self.end
