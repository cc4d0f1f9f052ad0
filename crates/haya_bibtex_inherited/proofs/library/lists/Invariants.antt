use Rattle.std.proofs.Common.{map}
use Rattle.haya_bibtex_inherited.specs.Lists.{lists_view}
use Rattle.haya_bibtex_inherited.specs.Views.{entry_bytes}
use Rattle.haya_bibtex_inherited.proofs.Filling.{AreKnown}
use Rattle.haya_bibtex_inherited.proofs.library.lists.Given as goal

abbrev pub invariant-nodes : goal.invariant-nodes
invariant-nodes l =
    AreKnown l.order.ranks.items l.order.nodes.items (map entry_bytes l.entries) l.node-index (lists_view l.lists.items)
