use Rattle.std.proofs.Common.{◌∙◌, sym}
use Rattle.haya_command.proofs.sources.other_kind.Goals as goal

pub returns-in-None : goal.returns-in-None
returns-in-None c differs = c.no_kind.ensures c.args.first (sym c.kind_in.ensures ∙ c.in-None.is)
