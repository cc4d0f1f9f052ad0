use Rattle.std.proofs.Common.{◌≤◌, length, drop}
use Rattle.haya_slices.specs.Layout.{IsWhite}
use Rattle.haya_slices.proofs.white.trimmed_len.Given as goal

abbrev pub invariant-bytes : goal.invariant-bytes
invariant-bytes l =
    record { within : l.len ≤ length l.bytes; white : IsWhite (drop l.len l.bytes) }

abbrev pub decreases-bytes : goal.decreases-bytes
decreases-bytes l = l.len
