use Rattle.std.proofs.Common.{◌≡◌, length}
use Rattle.haya_selectors.specs.Marks.{AreMarked}
use Rattle.haya_selectors.specs.Nodes.{slot_names}
use Rattle.haya_selectors.proofs.nodes.Nodes.mark_simple.Given as goal

-- the nodes so far are marked
abbrev pub invariant-nodes : goal.invariant-nodes
invariant-nodes l = (length l.simple.items ≡ l.number) × AreMarked (slot_names l.self) l.self.nodes.items l.simple.items
