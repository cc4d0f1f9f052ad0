use Rattle.std.proofs.Common.{◌≡◌, ℕ, ◌<◌, []}
use Rattle.haya_bibtex_inherited.specs.Search.{IsReached, Knows, graph_of}
use Rattle.haya_bibtex_inherited.proofs.order.in_order.Given as goal

abbrev pub invariant-nodes : goal.invariant-nodes
invariant-nodes l = record {
  knows : Knows (graph_of l.graph) l.search;
  ended : l.search.starts.items ≡ [];
  reached : (v : ℕ) → v < l.node → IsReached l.search v;
}
