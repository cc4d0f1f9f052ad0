use Rattle.std.proofs.Common.{◌<◌, length, arith, sym, ◌∙◌}
use Rattle.std.proofs.lemmas.List.{get_or_read, length-map, length-set, length-append, length_push}
use Rattle.haya_bibtex_inherited.specs.Graphs.{targets}
use Rattle.haya_bibtex_inherited.specs.Search.{arrow, arrows_from, graph_of}
use Rattle.haya_bibtex_inherited.specs.declared.search.Place.TheVariants.{New}
use Rattle.haya_bibtex_inherited.proofs.Sound.{arrow_known, join_sound, new_sound, skip_sound}
use Rattle.haya_bibtex_inherited.proofs.Working.{nodes_work-open}
use Rattle.haya_bibtex_inherited.proofs.search.follow.Goals as goal

pub index-requires : goal.index-requires
index-requires c =
    let k = arrow_known _ _ _ _ _ _ c.args.arrow c.requires.whole c.requires.knows.1 in
    omega (arith, k, c.requires.knows.0, c.args.search.now.places.ok)

pub open-requires-clause-known : goal.open-requires-clause-known
open-requires-clause-known c =
    let k = arrow_known _ _ _ _ _ _ c.args.arrow c.requires.whole c.requires.knows.1 in
    omega (arith, k, length-map c.args.graph.now (λ row. row.items))

pub returns-in_ok-open-in-New-clause-knows : goal.returns-in_ok-open-in-New-clause-knows
returns-in_ok-open-in-New-clause-knows c =
    let e = c.in_ok-open-in-New.ensures in
    let k = arrow_known _ _ _ _ _ _ c.args.arrow c.requires.whole c.requires.knows.1 in
    let l : c.args.arrow.to < length c.args.search.now.places.items = omega (arith, k, c.requires.knows.0) in
    rw (e.places, e.way, e.starts, e.arrows, e.order) (
      length-set _ _ _ ∙ c.requires.knows.0,
      new_sound _ _ _ _ _ _ c.args.arrow c.requires.knows.1 l (sym (get_or_read _ _ _ l c.index.ensures New) ∙ c.in-New.is) c.requires.last,
    )

pub returns-in_ok-open-in-New-clause-work : goal.returns-in_ok-open-in-New-clause-work
returns-in_ok-open-in-New-clause-work c =
    let e = c.in_ok-open-in-New.ensures in
    let g = graph_of c.args.graph.now in
    let s = c.args.search.now in
    let n = length s.way.items in
    let k = arrow_known _ _ _ _ _ _ c.args.arrow c.requires.whole c.requires.knows.1 in
    let l : c.args.arrow.to < length s.places.items = omega (arith, k, c.requires.knows.0) in
    let new = sym (get_or_read _ _ _ l c.index.ensures New) ∙ c.in-New.is in
    let less = nodes_work-open g s.places.items c.args.arrow.to n c.requires.knows.0 l new in
    let more = length-append s.arrows.items (arrows_from n (targets g c.args.arrow.to)) in
    let each = length-map (targets g c.args.arrow.to) (arrow n) in
    let one = length_push s.starts.items n in
    rw (e.places, e.starts, e.arrows) (omega (arith, less, more, each, one))

pub returns-in-Open-clause-knows : goal.returns-in-Open-clause-knows
returns-in-Open-clause-knows c =
    let k = arrow_known _ _ _ _ _ _ c.args.arrow c.requires.whole c.requires.knows.1 in
    let l : c.args.arrow.to < length c.args.search.now.places.items = omega (arith, k, c.requires.knows.0) in (
      c.requires.knows.0,
      join_sound _ _ _ _ _ _ _ c.args.arrow c.in-Open.at c.requires.knows.1 (sym (get_or_read _ _ _ l c.index.ensures New) ∙ c.in-Open.is) c.requires.last c.join.ensures.back,
    )

pub returns-in-Ranked-clause-knows : goal.returns-in-Ranked-clause-knows
returns-in-Ranked-clause-knows c =
    let k = arrow_known _ _ _ _ _ _ c.args.arrow c.requires.whole c.requires.knows.1 in
    let l : c.args.arrow.to < length c.args.search.now.places.items = omega (arith, k, c.requires.knows.0) in (
      c.requires.knows.0,
      skip_sound _ _ _ _ _ _ c.args.arrow c.in-Ranked.field-0 c.requires.knows.1 (sym (get_or_read _ _ _ l c.index.ensures New) ∙ c.in-Ranked.is),
    )
