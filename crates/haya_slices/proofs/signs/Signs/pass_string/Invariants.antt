use Rattle.std.proofs.Common.{◌≡◌, ◌++◌, ◌-◌, ◌≤◌, ℕ, List, drop, length, take}
use Rattle.haya_json_elements.specs.declared.place.Brackets.{Brackets}
use Rattle.haya_json_elements.specs.declared.place.Mode.TheVariants.{Text}
use Rattle.haya_slices.specs.Layout.{inside}
use Rattle.haya_slices.specs.Sought.{AreSigns}
use Rattle.haya_slices.proofs.signs.Signs.pass_string.Given as goal

-- the bytes so far stay in the string
abbrev pub invariant-marks : goal.invariant-marks
invariant-marks l = record {
  signs : AreSigns l.bytes l.self;
  order : l.initial.self.start ≤ l.self.start;
  leads : (b : Brackets) (d : ℕ) (ys : List ℕ) →
      inside b Text d (take (l.self.start - l.initial.self.start) (drop l.initial.self.start l.bytes) ++ ys) ≡ inside b Text d ys;
}

abbrev pub decreases-marks : goal.decreases-marks
decreases-marks l = length l.bytes - l.self.start
