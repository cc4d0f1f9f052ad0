use Rattle.std.proofs.Common.{◌≡◌, ◌++◌, drop, map}
use Rattle.haya_bibtex_text.specs.Bibliography.{filled_fields, unknown_names, unknown_string}
use Rattle.haya_bibtex_text.specs.BibliographyViews.{field_texts, note_view}
use Rattle.haya_bibtex_text.specs.Definitions.{strings_view}
use Rattle.haya_bibtex_text.specs.FieldViews.{field_view}
use Rattle.haya_bibtex_text.specs.Uses.{field_uses, spend}
use Rattle.haya_bibtex_text.proofs.resolved.filled_fields.Given as goal

-- what there is so far, and what comes of the fields that are left, is what comes of all
abbrev pub invariant-fields : goal.invariant-fields
invariant-fields l = record {
  fields : map field_texts l.fields.items
      ++ filled_fields (strings_view l.strings) (map field_view (drop l.field-index l.written))
      ≡ filled_fields (strings_view l.strings) (map field_view l.written);
  unknown : map note_view l.passed_over.items
      ++ map unknown_string (unknown_names (strings_view l.strings) (map field_view (drop l.field-index l.written)))
      ≡ map note_view l.initial.passed_over.items
      ++ map unknown_string (unknown_names (strings_view l.strings) (map field_view l.written));
  room : spend l.room (field_uses (strings_view l.strings) (map field_view (drop l.field-index l.written)))
      ≡ spend l.initial.room (field_uses (strings_view l.strings) (map field_view l.written));
}
