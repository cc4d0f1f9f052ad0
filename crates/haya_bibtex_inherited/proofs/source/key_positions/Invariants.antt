use Rattle.std.proofs.Common.{◌≡◌, ◌+◌, ◌≤◌, ℕ, List, drop, length, map}
use Rattle.std.specs.BTreeMap.{get_by}
use Rattle.std.specs.Cmp.Lexicographic.{slice_cmp}
use Rattle.std.specs.Option.{option_map}
use Rattle.std.specs.Ordering.{nat_cmp}
use Rattle.haya_bibtex_inherited.specs.References.{position_of}
use Rattle.haya_bibtex_inherited.specs.Views.{entry_bytes}
use Rattle.haya_bibtex_inherited.proofs.source.key_positions.Given as goal

-- the map has the places of the keys in the last entries
abbrev pub invariant-entries : goal.invariant-entries
invariant-entries l = record {
  within : l.left ≤ length l.entries;
  places : (key : List ℕ) → get_by (λ k. slice_cmp nat_cmp key k.now) l.positions
      ≡ option_map (λ i. i + l.left) (position_of (map entry_bytes (drop l.left l.entries)) key);
}

abbrev pub decreases-entries : goal.decreases-entries
decreases-entries l = l.left
