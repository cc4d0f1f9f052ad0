use Rattle.std.proofs.Common.{◌≡◌, ◌-◌, ◌<◌, ◌≤◌, ℕ, length}
use Rattle.std.specs.Prelude.{slice_index}
use Rattle.haya_json_elements.proofs.kept.spaces_len.Given as goal

abbrev pub invariant-spaces : goal.invariant-spaces
invariant-spaces l =
    (l.count ≤ length l.bytes) × ((k : ℕ) → k < l.count → slice_index l.bytes k ≡ 32)

abbrev pub decreases-spaces : goal.decreases-spaces
decreases-spaces l = length l.bytes - l.count
