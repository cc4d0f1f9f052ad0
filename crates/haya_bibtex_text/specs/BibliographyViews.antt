-- Entries, and what is passed over, by value.
use Rattle.std.specs.Prelude.{ℕ, List, [], ◌∷◌, map}
use Rattle.std.specs.Str.{chars}
use Rattle.std.specs.String.{string_bytes}
use Rattle.haya_bibtex_text.specs.Bibliography.{BibliographyTexts, EntryTexts, FieldText, Note}
use Rattle.haya_bibtex_text.specs.Bibliography.{field_again, key_again, stray_at, unknown_string}
use Rattle.haya_bibtex_text.specs.declared.entry.Bibliography.{Bibliography}
use Rattle.haya_bibtex_text.specs.declared.entry.Entry.{Entry}
use Rattle.haya_bibtex_text.specs.declared.entry.Field.{Field}
use Rattle.haya_bibtex_text.specs.declared.entry.PassedOver.{PassedOver}
use Rattle.haya_bibtex_text.specs.declared.entry.PassedOver.TheVariants as passed

abbrev pub field_texts : Field → FieldText
field_texts f =
    record { name = chars (string_bytes f.name); text = chars (string_bytes f.text) }

abbrev pub entry_view : Entry → EntryTexts
entry_view e = record {
  kind = chars (string_bytes e.kind);
  key = chars (string_bytes e.key);
  fields = map field_texts e.fields.items;
}

abbrev pub note_view : PassedOver → Note
note_view (passed.Field n) = field_again (chars (string_bytes n))
note_view (passed.Entry k) = key_again (chars (string_bytes k))
note_view (passed.Name n) = unknown_string (chars (string_bytes n))
note_view passed.Sign = stray_at

abbrev pub bibliography_view : Bibliography → BibliographyTexts
bibliography_view b = record {
  entries = map entry_view b.entries.items;
  passed_over = map note_view b.passed_over.items;
}

-- the bytes of the name under which it is counted
abbrev pub passed_over_text : PassedOver → List ℕ
passed_over_text (passed.Field n) = string_bytes n
passed_over_text (passed.Entry k) = 64 ∷ string_bytes k
passed_over_text (passed.Name n) = 35 ∷ string_bytes n
passed_over_text passed.Sign = 64 ∷ []
