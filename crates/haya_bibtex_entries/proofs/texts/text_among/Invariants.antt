use Rattle.std.proofs.Common.{◌≡◌, drop, map}
use Rattle.haya_bibtex_inherited.specs.Entries.{text_of}
use Rattle.haya_bibtex_inherited.specs.Views.{field_view}
use Rattle.haya_bibtex_entries.proofs.texts.text_among.Given as goal

-- the text is that in the fields that are left
abbrev pub invariant-fields : goal.invariant-fields
invariant-fields l =
    text_of (map field_view (drop l.field-index l.fields)) l.name ≡ text_of (map field_view l.fields) l.name
