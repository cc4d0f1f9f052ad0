use Rattle.haya_entry.specs.Lookups.{entries_of_type}
use Rattle.haya_entry.specs.Tree.{view}
use Rattle.haya_entry.proofs.LookupLemmas.{Searched}
use Rattle.haya_entry.proofs.entry.Entry.+dfs_parent.Given as goal

abbrev pub invariant-loop-parent : goal.invariant-loop-parent
invariant-loop-parent l = Searched (entries_of_type l.kind) (entries_of_type l.kind (view l.self)) (view l.self) l.parent-index
