use Rattle.haya_bibtex_inherited.specs.Search.{KeepsReached, Knows, graph_of, work}
use Rattle.haya_bibtex_inherited.proofs.order.follow_all.Given as goal

abbrev pub invariant-groups : goal.invariant-groups
invariant-groups l = record {
  knows : Knows (graph_of l.graph) l.search;
  reached : KeepsReached l.fn.search l.search;
}

abbrev pub decreases-groups : goal.decreases-groups
decreases-groups l = work (graph_of l.graph) l.search
