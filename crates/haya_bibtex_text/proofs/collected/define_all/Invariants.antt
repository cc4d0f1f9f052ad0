use Rattle.std.proofs.Common.{◌≡◌, ◌++◌, drop, map}
use Rattle.haya_bibtex_text.specs.Bibliography.{with_definitions, definition_notes}
use Rattle.haya_bibtex_text.specs.BibliographyViews.{note_view}
use Rattle.haya_bibtex_text.specs.Definitions.{strings_view}
use Rattle.haya_bibtex_text.specs.FieldViews.{field_view}
use Rattle.haya_bibtex_text.specs.Uses.{definition_uses, spend}
use Rattle.haya_bibtex_text.proofs.collected.define_all.Given as goal

-- what comes of the fields that are left, behind those so far, is what comes of all
abbrev pub invariant-fields : goal.invariant-fields
invariant-fields l = record {
  strings : with_definitions (strings_view l.strings) (map field_view (drop l.field-index l.fields))
      ≡ with_definitions (strings_view l.initial.strings) (map field_view l.fields);
  notes : map note_view l.passed_over.items
      ++ definition_notes (strings_view l.strings) (map field_view (drop l.field-index l.fields))
      ≡ map note_view l.initial.passed_over.items
      ++ definition_notes (strings_view l.initial.strings) (map field_view l.fields);
  room : spend l.room (definition_uses (strings_view l.strings) (map field_view (drop l.field-index l.fields)))
      ≡ spend l.initial.room (definition_uses (strings_view l.initial.strings) (map field_view l.fields));
}
