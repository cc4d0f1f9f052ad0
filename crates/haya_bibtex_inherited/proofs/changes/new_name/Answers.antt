use Rattle.haya_bibtex_inherited.specs.Changes.{new_authors, new_titles}
use Rattle.haya_bibtex_inherited.proofs.NewNames.{name_under-first, name_under-second}
use Rattle.haya_bibtex_inherited.proofs.changes.new_name.Goals as goal

pub returns-in-Some : goal.returns-in-Some
returns-in-Some c =
    name_under-first (new_titles c.args.changes.titles) (new_authors c.args.changes.book_author) c.args.name.now c.in-Some.other.now c.in-Some.ensures

pub returns-in-None : goal.returns-in-None
returns-in-None c =
    name_under-second (new_titles c.args.changes.titles) (new_authors c.args.changes.book_author) c.args.name.now _ c.in-None.ensures c.new_author.ensures
