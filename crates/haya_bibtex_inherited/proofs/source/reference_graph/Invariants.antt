use Rattle.std.proofs.Common.{◌≡◌, map, take}
use Rattle.std.specs.List.{filter_map}
use Rattle.haya_bibtex_inherited.specs.Search.{graph_of}
use Rattle.haya_bibtex_inherited.specs.Sources.{all_sources_view}
use Rattle.haya_bibtex_inherited.proofs.source.reference_graph.Given as goal

abbrev pub invariant-all : goal.invariant-all
invariant-all l =
    graph_of l.graph.items ≡ map (filter_map (λ s. s.position)) (all_sources_view (take l.sources-index l.all))
