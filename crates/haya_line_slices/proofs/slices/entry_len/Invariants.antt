use Rattle.std.proofs.Common.{◌≡◌, ◌+◌, ◌-◌, ◌≤◌, ℕ, drop, false, length}
use Rattle.std.specs.Prelude.{slice_index}
use Rattle.haya_line_slices.specs.EntryLines.{begins_entry}
use Rattle.haya_line_slices.proofs.slices.entry_len.Given as goal

abbrev pub invariant-bytes : goal.invariant-bytes
invariant-bytes l = record {
  within : l.at ≤ length l.bytes;
  none : (k : ℕ) → k + 1 ≤ l.at → slice_index l.bytes k ≡ 10 → begins_entry (drop (k + 1) l.bytes) ≡ false;
}

abbrev pub decreases-bytes : goal.decreases-bytes
decreases-bytes l = length l.bytes - l.at
