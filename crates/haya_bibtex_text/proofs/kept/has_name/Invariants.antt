use Rattle.std.proofs.Common.{◌≡◌, drop, map}
use Rattle.std.specs.Str.{chars}
use Rattle.haya_bibtex_text.specs.Bibliography.{comes_again}
use Rattle.haya_bibtex_text.specs.BibliographyViews.{field_texts}
use Rattle.haya_bibtex_text.proofs.kept.has_name.Given as goal

-- the name comes where one of the fields that are left has it
abbrev pub invariant-fields : goal.invariant-fields
invariant-fields l =
    comes_again (map field_texts l.fields) (chars l.name)
    ≡ comes_again (map field_texts (drop l.field-index l.fields)) (chars l.name)
