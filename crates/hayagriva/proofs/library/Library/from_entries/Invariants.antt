use Rattle.std.proofs.Common.{◌≡◌, map}
use Rattle.haya_entry.specs.Tree.{view}
use Rattle.hayagriva.specs.Library.{from_entries}
use Rattle.hayagriva.proofs.library.Library.from_entries.Given as goal

-- the entries so far are pushed
abbrev pub invariant-loop-entry : goal.invariant-loop-entry
invariant-loop-entry g l =
    (goal.iterator-loop-entry g).can_next l.entry-iterator × (goal.iterator-loop-entry g).is_finite l.entry-iterator
    × (l.library ≡ from_entries (map view l.yielded))
