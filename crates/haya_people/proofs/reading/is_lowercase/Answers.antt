use Rattle.std.proofs.Common.{◌∙◌}
use Rattle.unicode.proofs.StdLemmas.{is_lowercase-std}
use Rattle.haya_people.proofs.reading.is_lowercase.Goals as goal

pub returns : goal.returns
returns c = c.is_lowercase.ensures.value ∙ is_lowercase-std c.args.c
