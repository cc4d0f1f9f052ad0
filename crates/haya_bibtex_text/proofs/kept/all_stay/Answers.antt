use Rattle.std.proofs.Common.{◌≡◌, arith, map, true}
use Rattle.std.proofs.lemmas.Grind.{common_steps}
use Rattle.haya_bibtex_text.specs.BibliographyViews.{field_texts}
use Rattle.haya_bibtex_text.proofs.Distinct.{all_last, are_distinct, no_other}
use Rattle.haya_bibtex_text.proofs.kept.all_stay.Goals as goal

pub returns-clause-last : goal.returns-clause-last
returns-clause-last c =
    let distinct : are_distinct (map field_texts c.args.fields.now) ≡ true = grind (arith, common_steps) in
    λ _. all_last (map field_texts c.args.fields.now) distinct

pub returns-clause-others : goal.returns-clause-others
returns-clause-others c =
    let distinct : are_distinct (map field_texts c.args.fields.now) ≡ true = grind (arith, common_steps) in
    λ _. no_other (map field_texts c.args.fields.now) distinct
