use Rattle.std.proofs.Common.{◌≡◌, ◌<◌, arith, ap, length, map, subst, sym, ◌∙◌, List}
use Rattle.std.specs.Prelude.{All, IfSome}
use Rattle.std.proofs.lemmas.List.{length-map}
use Rattle.haya_bibtex_inherited.specs.Graphs.{Graph, IsInOrder, IsWhole}
use Rattle.haya_bibtex_inherited.specs.Inherited.{IsLibrary, Source, entry_targets, passed_over_from, sources}
use Rattle.haya_bibtex_inherited.specs.Lists.{have_same_rank, lists_view}
use Rattle.haya_bibtex_inherited.specs.Sources.{all_sources_view, sources_view}
use Rattle.haya_bibtex_inherited.specs.Views.{entry_bytes, entry_view, reference_view}
use Rattle.haya_bibtex_inherited.proofs.Filling.{all_within, graph_same, one_library, references_whole, tells_back}
use Rattle.haya_bibtex_inherited.proofs.library.referring_entries.Goals as goal

pub in_order-requires : goal.in_order-requires
in_order-requires c =
    let es = map entry_bytes c.args.entries.now in
    let same = graph_same es c.as_slice-2.result.now c.in_ok-graph.graph.items c.as_slice.result.now c.in_ok-sources.sources.items c.as_slice-2.ensures.value c.as_slice.ensures.value c.in_ok-graph.ensures c.in_ok-sources.ensures in
    record { whole = subst (λ (g : Graph). IsWhole g) (sym same) (references_whole es) }

pub lists-requires-clause-many : goal.lists-requires-clause-many
lists-requires-clause-many c =
    let es = map entry_bytes c.args.entries.now in
    let same = graph_same es c.as_slice-2.result.now c.in_ok-graph.graph.items c.as_slice.result.now c.in_ok-sources.sources.items c.as_slice-2.ensures.value c.as_slice.ensures.value c.in_ok-graph.ensures c.in_ok-sources.ensures in
    omega (arith, c.in_ok-order.ensures.many, length-map c.as_slice-2.result.now (λ row. row.items), ap length same, length-map es (entry_targets es), length-map c.args.entries.now entry_bytes)

pub lists-requires-clause-order : goal.lists-requires-clause-order
lists-requires-clause-order c =
    let es = map entry_bytes c.args.entries.now in
    let same = graph_same es c.as_slice-2.result.now c.in_ok-graph.graph.items c.as_slice.result.now c.in_ok-sources.sources.items c.as_slice-2.ensures.value c.as_slice.ensures.value c.in_ok-graph.ensures c.in_ok-sources.ensures in
    subst (λ (g : Graph). IsInOrder g c.in_ok-order.order.ranks.items c.in_ok-order.order.nodes.items) same c.in_ok-order.ensures.order

pub passed_over-requires-clause-many : goal.passed_over-requires-clause-many
passed_over-requires-clause-many c =
    let es = map entry_bytes c.args.entries.now in
    let same = graph_same es c.as_slice-2.result.now c.in_ok-graph.graph.items c.as_slice.result.now c.in_ok-sources.sources.items c.as_slice-2.ensures.value c.as_slice.ensures.value c.in_ok-graph.ensures c.in_ok-sources.ensures in
    let ranks : length c.as_slice-4.result.now ≡ length es =
    omega (arith, c.in_ok-order.ensures.many, ap length c.as_slice-4.ensures.value, length-map c.as_slice-2.result.now (λ row. row.items), ap length same, length-map es (entry_targets es)) in
    omega (arith, ranks, ap length c.as_slice-5.ensures.value, ap length c.in_ok-sources.ensures, length-map c.in_ok-sources.sources.items (λ v. sources_view v.items), length-map es (sources es))

pub passed_over-requires-clause-sources : goal.passed_over-requires-clause-sources
passed_over-requires-clause-sources c =
    let es = map entry_bytes c.args.entries.now in
    let same = graph_same es c.as_slice-2.result.now c.in_ok-graph.graph.items c.as_slice.result.now c.in_ok-sources.sources.items c.as_slice-2.ensures.value c.as_slice.ensures.value c.in_ok-graph.ensures c.in_ok-sources.ensures in
    let ranks : length es ≡ length c.as_slice-4.result.now =
    omega (arith, c.in_ok-order.ensures.many, ap length c.as_slice-4.ensures.value, length-map c.as_slice-2.result.now (λ row. row.items), ap length same, length-map es (entry_targets es)) in
    let all = c.in_ok-sources.ensures in
    subst (λ (v : List (List Source)). All (All (λ s. IfSome s.position (λ j. j < length c.as_slice-4.result.now))) v)
    (sym (ap all_sources_view c.as_slice-5.ensures.value ∙ all)) (all_within es (length c.as_slice-4.result.now) ranks)

pub returns-clause-is : goal.returns-clause-is
returns-clause-is c =
    let es = map entry_bytes c.args.entries.now in
    let o = c.in_ok-order.order in
    let same = graph_same es c.as_slice-2.result.now c.in_ok-graph.graph.items c.as_slice.result.now c.in_ok-sources.sources.items c.as_slice-2.ensures.value c.as_slice.ensures.value c.in_ok-graph.ensures c.in_ok-sources.ensures in
    let order = subst (λ (g : Graph). IsInOrder g o.ranks.items o.nodes.items) same c.in_ok-order.ensures.order in
    record {
      back = have_same_rank o.ranks.items;
      circles = tells_back es o.ranks.items o.nodes.items order;
      all = lists_view c.in_ok-lists.lists.items;
      fields = c.in_ok-lists.ensures;
      entries = c.in_ok-entries.ensures;
      passed_over = (rw (c.as_slice-4.ensures.value, c.as_slice-5.ensures.value) at c.in_ok-passed_over.ensures)
          ∙ ap (passed_over_from (have_same_rank o.ranks.items) 0) c.in_ok-sources.ensures;
    }

pub returns-clause-only : goal.returns-clause-only
returns-clause-only c = λ l p other.
    let es = map entry_bytes c.args.entries.now in
    let o = c.in_ok-order.order in
    let same = graph_same es c.as_slice-2.result.now c.in_ok-graph.graph.items c.as_slice.result.now c.in_ok-sources.sources.items c.as_slice-2.ensures.value c.as_slice.ensures.value c.in_ok-graph.ensures c.in_ok-sources.ensures in
    let order = subst (λ (g : Graph). IsInOrder g o.ranks.items o.nodes.items) same c.in_ok-order.ensures.order in
    let this : IsLibrary es (map entry_view c.in_ok-entries.entries.items) (map reference_view c.in_ok-passed_over.passed_over.items) = record {
      back = have_same_rank o.ranks.items;
      circles = tells_back es o.ranks.items o.nodes.items order;
      all = lists_view c.in_ok-lists.lists.items;
      fields = c.in_ok-lists.ensures;
      entries = c.in_ok-entries.ensures;
      passed_over = (rw (c.as_slice-4.ensures.value, c.as_slice-5.ensures.value) at c.in_ok-passed_over.ensures)
          ∙ ap (passed_over_from (have_same_rank o.ranks.items) 0) c.in_ok-sources.ensures;
    } in
    one_library o.ranks.items o.nodes.items es order _ l _ p this other
