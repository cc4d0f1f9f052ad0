use Rattle.haya_bibtex_text.proofs.Lookups.{strings_view-defined, strings_view-start}
use Rattle.haya_bibtex_text.proofs.definitions.defined_text.Goals as goal

pub returns-in-Some : goal.returns-in-Some
returns-in-Some c =
    rw c.as_str.ensures.value (strings_view-defined c.args.definitions.now c.args.name.now c.in-Some.text.now c.utf8.name c.in-Some.ensures.value)

pub returns-in-None : goal.returns-in-None
returns-in-None c =
    strings_view-start c.args.definitions.now c.args.name.now c.predefined_text.result c.utf8.name c.in-None.ensures.value c.predefined_text.ensures
