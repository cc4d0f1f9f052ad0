use Rattle.std.proofs.Common.{◌≡◌, ◌-◌, ◌≤◌, length, take}
use Rattle.haya_yaml_slices.proofs.Pairs.{texts}
use Rattle.haya_yaml_slices.proofs.saying.are_same.Given as goal

abbrev pub invariant-texts : goal.invariant-texts
invariant-texts l = (l.at ≤ length l.texts) × (texts (take l.at l.texts) ≡ texts (take l.at l.others))

abbrev pub decreases-texts : goal.decreases-texts
decreases-texts l = length l.texts - l.at
