use Rattle.std.proofs.Common.{◌≡◌, ◌++◌, ◌-◌, ◌<◌, ℕ, List, length, take}
use Rattle.haya_json_elements.specs.declared.place.Brackets.{Brackets}
use Rattle.haya_json_elements.specs.declared.place.Mode.TheVariants.{Between}
use Rattle.haya_slices.specs.Layout.{inside}
use Rattle.haya_slices.specs.Sought.{AreSigns}
use Rattle.haya_slices.proofs.nested.nested_len.Given as goal

abbrev pub invariant-turns : goal.invariant-turns
invariant-turns l = record {
  signs : AreSigns l.bytes l.signs;
  some : 0 < l.depth;
  leads : (b : Brackets) (ys : List ℕ) → inside b Between 1 (take l.signs.start l.bytes ++ ys) ≡ inside b Between l.depth ys;
}

abbrev pub decreases-turns : goal.decreases-turns
decreases-turns l = length l.bytes - l.signs.start
