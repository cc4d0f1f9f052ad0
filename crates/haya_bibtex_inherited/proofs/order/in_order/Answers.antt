use Rattle.std.proofs.Common.{arith, length, sym, ◌∙◌}
use Rattle.std.proofs.lemmas.List.{length-map, length-replicate}
use Rattle.haya_bibtex_inherited.specs.Search.{graph_of, rank_of}
use Rattle.haya_bibtex_inherited.specs.declared.search.Place.TheVariants.{New}
use Rattle.haya_bibtex_inherited.proofs.Ordering.{in_order, start_sound}
use Rattle.haya_bibtex_inherited.proofs.order.in_order.Goals as goal

pub nodes-init : goal.nodes-init
nodes-init c =
    let e = c.in_ok-search.ensures in
    let g = c.args.graph.now in
    record {
      knows = rw (e.places, e.way, e.starts, e.arrows, e.order)
          (length-replicate (length g) New ∙ sym (length-map g (λ row. row.items)), start_sound (graph_of g) (length g));
      ended = e.starts;
      reached = λ v h. absurd (omega (arith, h));
    }

pub returns-clause-order : goal.returns-clause-order
returns-clause-order c =
    let s = c.nodes.search in
    let i = c.nodes.invariant in
    let g = c.args.graph.now in
    rw (c.in_ok-ranks.ensures, c.as_slice.ensures.value)
    (in_order (graph_of g) s.places.items s.way.items s.starts.items s.arrows.items s.order.items i.knows.0 c.requires.whole i.knows.1 i.ended
    (λ v l. i.reached v (omega (arith, l, c.nodes-test.false, length-map g (λ row. row.items)))))

pub returns-clause-many : goal.returns-clause-many
returns-clause-many c =
    let s = c.nodes.search in
    rw (c.in_ok-ranks.ensures, c.as_slice.ensures.value)
    (length-map s.places.items rank_of ∙ c.nodes.invariant.knows.0 ∙ length-map c.args.graph.now (λ row. row.items))
