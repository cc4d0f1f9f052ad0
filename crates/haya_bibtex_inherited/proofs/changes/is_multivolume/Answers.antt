use Rattle.std.specs.Prelude.{codes}
use Rattle.std.proofs.lemmas.Str.Pattern.{starts_text}
use Rattle.haya_bibtex_inherited.proofs.changes.is_multivolume.Goals as goal

pub returns : goal.returns
returns c = starts_text c.starts_with.result (codes "mv") c.args.kind.now c.starts_with.ensures.cases
