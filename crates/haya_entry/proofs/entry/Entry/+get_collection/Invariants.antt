use Rattle.haya_entry.specs.Lookups.{collections}
use Rattle.haya_entry.specs.Tree.{view}
use Rattle.haya_entry.proofs.LookupLemmas.{Searched}
use Rattle.haya_entry.proofs.entry.Entry.+get_collection.Given as goal

abbrev pub invariant-loop-parent : goal.invariant-loop-parent
invariant-loop-parent l = Searched collections (collections (view l.self)) (view l.self) l.parent-index
