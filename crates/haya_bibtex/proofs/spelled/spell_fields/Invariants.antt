use Rattle.std.proofs.Common.{◌≡◌, map, take}
use Rattle.haya_bibtex_text.specs.BibliographyViews.{field_texts}
use Rattle.haya_bibtex_inherited.specs.Views.{field_bytes}
use Rattle.haya_bibtex.specs.Spelled.{field_spelled}
use Rattle.haya_bibtex.proofs.spelled.spell_fields.Given as goal

-- the fields so far are spelled by their characters
abbrev pub invariant-fields : goal.invariant-fields
invariant-fields l =
    map field_spelled (map field_texts (take l.field-index l.fields)) ≡ map field_bytes (take l.field-index l.fields)
