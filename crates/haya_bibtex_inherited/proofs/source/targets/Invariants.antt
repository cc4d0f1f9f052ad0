use Rattle.std.proofs.Common.{◌≡◌, ◌++◌, drop}
use Rattle.std.specs.List.{filter_map}
use Rattle.haya_bibtex_inherited.specs.Sources.{sources_view}
use Rattle.haya_bibtex_inherited.proofs.source.targets.Given as goal

-- the places so far, and those of the sources that are left, are those of all
abbrev pub invariant-sources : goal.invariant-sources
invariant-sources l =
    l.targets.items ++ filter_map (λ s. s.position) (sources_view (drop l.source-index l.sources))
    ≡ filter_map (λ s. s.position) (sources_view l.sources)
