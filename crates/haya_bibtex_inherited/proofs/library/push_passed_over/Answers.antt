use Rattle.std.proofs.Common.{◌<◌, length}
use Rattle.std.specs.Prelude.{IfSome}
use Rattle.haya_bibtex_inherited.proofs.Filling.{source_at}
use Rattle.haya_bibtex_inherited.proofs.library.push_passed_over.Goals as goal

pub is_passed_over-requires-clause-source : goal.is_passed_over-requires-clause-source
is_passed_over-requires-clause-source c =
    source_at (λ s. IfSome s.position (λ j. j < length c.args.ranks.now)) c.args.sources.now c.sources.source-index _ c.requires.sources c.sources-test.true
