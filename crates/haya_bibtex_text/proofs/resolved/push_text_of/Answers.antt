use Rattle.std.proofs.Common.{◌++◌, ap, append-nil, map, sym, ◌∙◌}
use Rattle.haya_bibtex_text.specs.BibliographyViews.{field_texts}
use Rattle.haya_bibtex_text.proofs.Filled.{white_field}
use Rattle.haya_bibtex_text.proofs.resolved.push_text_of.Goals as goal

pub returns-then-are_white : goal.returns-then-are_white
returns-then-are_white c = λ ss.
    sym (append-nil (map field_texts c.args.fields.now.items))
    ∙ ap (λ l. map field_texts c.args.fields.now.items ++ l) (sym (white_field ss c.args.name.now c.args.characters.now c.if-are_white.ensures))
