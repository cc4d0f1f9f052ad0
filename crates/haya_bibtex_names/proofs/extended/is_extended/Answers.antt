use Rattle.std.proofs.Common.{sym}
use Rattle.haya_bibtex_names.proofs.Unlabelled.{not_extended}
use Rattle.haya_bibtex_names.proofs.extended.is_extended.Goals as goal

pub returns-in_default : goal.returns-in_default
returns-in_default c = not_extended c.args.text.now (sym (rw c.in_default.is at c.sides.ensures))
