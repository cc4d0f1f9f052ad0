use Rattle.haya_bibtex_text.proofs.Lookups.{strings_view-define}
use Rattle.haya_bibtex_text.proofs.definitions.define.Goals as goal

pub returns : goal.returns
returns c =
    strings_view-define c.args.definitions.now (record { texts = c.insert.new.self }) c.args.name c.args.text c.in_ok-insert.ensures.updates
