use Rattle.std.proofs.Common.{◌-◌, ◌≤◌, length, take}
use Rattle.haya_slices.specs.Layout.{IsWhite}
use Rattle.haya_slices.proofs.white.white_len.Given as goal

abbrev pub invariant-bytes : goal.invariant-bytes
invariant-bytes l =
    record { within : l.len ≤ length l.bytes; white : IsWhite (take l.len l.bytes) }

abbrev pub decreases-bytes : goal.decreases-bytes
decreases-bytes l = length l.bytes - l.len
