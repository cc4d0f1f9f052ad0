use Rattle.std.proofs.Common.{◌∷◌, [], arith}
use Rattle.std.proofs.lemmas.List.{length-append}
use Rattle.haya_selectors.specs.Nodes.{slot_names}
use Rattle.haya_selectors.proofs.Marks.{marked_more}
use Rattle.haya_selectors.proofs.nodes.Nodes.mark_simple.Goals as goal

pub nodes-preserved : goal.nodes-preserved
nodes-preserved c =
    let s = c.args.self.now in
    let marks = c.nodes.simple.items in
    let b = c.stands_for_simple-is_simple.result in
    let inv = c.nodes.invariant in
    rw c.in_ok-push.ensures.items (
      omega (arith, length-append marks (b ∷ []), inv.0),
      marked_more (slot_names s) s.nodes.items marks inv.1 b (omega (arith, inv.0)) (rw inv.0 c.stands_for_simple-is_simple.ensures),
    )
