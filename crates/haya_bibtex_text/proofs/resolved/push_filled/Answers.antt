use Rattle.std.proofs.Common.{◌++◌, ap, map, ◌∙◌}
use Rattle.haya_bibtex_text.specs.BibliographyViews.{field_texts}
use Rattle.haya_bibtex_text.specs.Definitions.{strings_view}
use Rattle.haya_bibtex_text.proofs.Filled.{written_text}
use Rattle.haya_bibtex_text.proofs.resolved.push_filled.Goals as goal

pub returns-in-Some-clause-fields : goal.returns-in-Some-clause-fields
returns-in-Some-clause-fields c =
    let ss = strings_view c.args.strings.now in
    c.in_ok-push_text_of.ensures ss
    ∙ ap (λ l. map field_texts c.args.fields.now.items ++ l)
    (written_text ss c.args.written.now c.in-Some.characters.now c.in-Some.ensures)
