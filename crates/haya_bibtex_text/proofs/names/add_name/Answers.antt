use Rattle.haya_bibtex_text.proofs.Lookups.{names_view-add, names_view-added}
use Rattle.haya_bibtex_text.proofs.names.add_name.Goals as goal

pub returns-clause-added : goal.returns-clause-added
returns-clause-added c =
    names_view-added c.args.names.now c.in_ok-text.text c.args.name.now _ c.utf8.name c.in_ok-text.ensures.ok c.in_ok-added.ensures.added

pub returns-clause-names : goal.returns-clause-names
returns-clause-names c =
    names_view-add c.args.names.now (record { texts = c.insert.new.self }) c.in_ok-text.text c.args.name.now c.in_ok-text.ensures.ok c.in_ok-added.ensures.updates
