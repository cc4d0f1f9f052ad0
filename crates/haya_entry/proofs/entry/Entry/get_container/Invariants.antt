use Rattle.haya_entry.specs.Tree.{view}
use Rattle.haya_entry.proofs.LookupLemmas.{Tried}
use Rattle.haya_entry.proofs.entry.Entry.get_container.Given as goal

abbrev pub invariant-loop-kind : goal.invariant-loop-kind
invariant-loop-kind l = Tried (view l.self) l.kind-items l.kind-index
