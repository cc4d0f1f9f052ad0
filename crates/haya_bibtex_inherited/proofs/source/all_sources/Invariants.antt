use Rattle.std.proofs.Common.{◌≡◌, map, take}
use Rattle.haya_bibtex_inherited.specs.Inherited.{sources}
use Rattle.haya_bibtex_inherited.specs.Sources.{all_sources_view}
use Rattle.haya_bibtex_inherited.specs.Views.{entry_bytes}
use Rattle.haya_bibtex_inherited.proofs.source.all_sources.Given as goal

abbrev pub invariant-entries : goal.invariant-entries
invariant-entries l =
    all_sources_view l.all.items ≡ map (sources (map entry_bytes l.entries)) (map entry_bytes (take l.entry-index l.entries))
