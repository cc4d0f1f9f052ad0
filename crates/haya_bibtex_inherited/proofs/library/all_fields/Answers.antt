use Rattle.std.proofs.Common.{length, map}
use Rattle.std.proofs.lemmas.List.{length-map}
use Rattle.haya_bibtex_inherited.specs.Inherited.{entry_at}
use Rattle.haya_bibtex_inherited.specs.Views.{entry_bytes}
use Rattle.haya_bibtex_inherited.proofs.Filling.{source_within}
use Rattle.haya_bibtex_inherited.proofs.library.all_fields.Goals as goal

pub add_source-requires-clause-source : goal.add_source-requires-clause-source
add_source-requires-clause-source c =
    let es = map entry_bytes c.args.entries.now in
    source_within es (entry_at es c.args.place) (length c.args.entries.now) c.args.found.now c.sources.source-index _ c.requires.sources
    (length-map c.args.entries.now entry_bytes) c.sources-test.true
