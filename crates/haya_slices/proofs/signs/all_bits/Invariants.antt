use Rattle.std.proofs.Common.{◌≡◌, ◌≤◌, ℕ, drop, length, map}
use lib.Lanes.{mask_l}
use Rattle.haya_slices.specs.Sought.{is_sign}
use Rattle.haya_slices.proofs.signs.all_bits.Given as goal

-- the bits of the bytes from this place on
abbrev pub invariant-bytes : goal.invariant-bytes
invariant-bytes l = record {
  within : l.at ≤ length l.bytes;
  bits : l.bits ≡ mask_l (map is_sign (drop l.at l.bytes));
}

abbrev pub decreases-bytes : goal.decreases-bytes
decreases-bytes l = l.at
