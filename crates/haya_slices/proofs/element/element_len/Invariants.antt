use Rattle.std.proofs.Common.{◌≡◌, ◌++◌, ◌-◌, ◌≤◌, ℕ, List, length, take}
use Rattle.std.specs.Prelude.{IsTrue}
use Rattle.haya_json_elements.specs.declared.place.Mode.TheVariants.{Between}
use Rattle.haya_slices.specs.Layout.{inside, is_outside_string}
use Rattle.haya_slices.proofs.element.element_len.Given as goal

abbrev pub invariant-bytes : goal.invariant-bytes
invariant-bytes l =
    record {
      within : l.at ≤ length l.bytes;
      outside : IsTrue (is_outside_string l.mode);
      leads : (ys : List ℕ) →
          inside l.brackets Between 0 (take l.at l.bytes ++ ys)
          ≡ inside l.brackets l.mode 0 ys;
    }

abbrev pub decreases-bytes : goal.decreases-bytes
decreases-bytes l = length l.bytes - l.at
