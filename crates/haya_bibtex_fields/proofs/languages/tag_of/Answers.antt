use Rattle.std.proofs.Common.{arith, sym}
use Rattle.haya_bibtex_fields.proofs.ShortNames.{short_tag}
use Rattle.haya_bibtex_fields.proofs.languages.tag_of.Goals as goal

pub returns-then-name-lt-SHORTEST : goal.returns-then-name-lt-SHORTEST
returns-then-name-lt-SHORTEST c = sym (short_tag c.args.name.now (omega arith))
