use Rattle.std.proofs.Common.{◌≡◌, List, map, take}
use Rattle.haya_bibtex_inherited.specs.Entries.{EntryBytes}
use Rattle.haya_bibtex_inherited.specs.Inherited.{source_of}
use Rattle.haya_bibtex_inherited.specs.Sources.{ArePositions, sources_view}
use Rattle.haya_bibtex_inherited.specs.Views.{reference_view}
use Rattle.haya_bibtex_inherited.proofs.source.sources.Given as goal

abbrev pub invariant-references : goal.invariant-references
invariant-references l = (es : List EntryBytes) → ArePositions es l.positions →
    sources_view l.sources.items ≡ map (source_of es) (map reference_view (take l.reference-index l.reference-items))
