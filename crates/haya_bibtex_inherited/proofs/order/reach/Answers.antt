use Rattle.std.proofs.Common.{◌<◌, length, arith, sym, ◌∙◌}
use Rattle.std.proofs.lemmas.List.{get_or_read, length-map, length-set}
use Rattle.haya_bibtex_inherited.specs.Search.{graph_of}
use Rattle.haya_bibtex_inherited.specs.declared.search.Place.TheVariants.{New}
use Rattle.haya_bibtex_inherited.proofs.Ordering.{root_sound}
use Rattle.haya_bibtex_inherited.proofs.order.reach.Goals as goal

pub follow_all-requires-clause-knows : goal.follow_all-requires-clause-knows
follow_all-requires-clause-knows c =
    let e = c.in_ok-open.ensures in
    let s = c.args.search.now in
    let l : c.args.node < length s.places.items = omega (arith, c.requires.known, c.requires.knows.0, length-map c.args.graph.now (λ row. row.items)) in
    rw (e.places, e.way, e.starts, e.arrows, e.order) (
      length-set _ _ _ ∙ c.requires.knows.0,
      root_sound (graph_of c.args.graph.now) s.places.items s.way.items s.starts.items s.arrows.items s.order.items c.args.node c.requires.ended l
          (sym (get_or_read _ _ _ l c.index.ensures New) ∙ c.in-New.is) c.requires.knows.1,
    )
