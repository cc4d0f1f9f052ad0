use Rattle.std.proofs.Common.{◌≡◌, map, take}
use Rattle.haya_entry.specs.Tree.{view}
use Rattle.haya_entry.proofs.entry.copies.+copies_of.Given as goal

-- the copies so far are those of the entries so far
abbrev pub invariant-loop-entry : goal.invariant-loop-entry
invariant-loop-entry l = map view l.all.items ≡ map view (take l.entry-index l.entries)
