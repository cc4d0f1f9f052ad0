-- What is read of entries, and what is made of them, by value.
use Rattle.std.specs.Prelude.{List, map, string_bytes}
use Rattle.haya_bibtex_text.specs.declared.entry.Entry.{Entry}
use Rattle.haya_bibtex_text.specs.declared.entry.Field.{Field}
use Rattle.haya_bibtex_inherited.specs.Entries.{EntryBytes, FieldBytes}
use Rattle.haya_bibtex_inherited.specs.References.{ReferenceBytes}
use Rattle.haya_bibtex_inherited.specs.declared.field.FieldRef.{FieldRef}
use Rattle.haya_bibtex_inherited.specs.declared.library.EntryRef.{EntryRef}
use Rattle.haya_bibtex_inherited.specs.declared.reference.Reference.{Reference}

abbrev pub field_bytes : Field → FieldBytes
field_bytes f = record { name = string_bytes f.name; text = string_bytes f.text }

abbrev pub entry_bytes : Entry → EntryBytes
entry_bytes e = record {
  kind = string_bytes e.kind;
  key = string_bytes e.key;
  fields = map field_bytes e.fields.items;
}

abbrev pub field_view : FieldRef → FieldBytes
field_view f = record { name = f.name.now; text = f.text.now }

abbrev pub fields_view : List FieldRef → List FieldBytes
fields_view fs = map field_view fs

abbrev pub entry_view : EntryRef → EntryBytes
entry_view e = record {
  kind = e.kind.now;
  key = e.key.now;
  fields = fields_view e.fields.items;
}

abbrev pub reference_view : Reference → ReferenceBytes
reference_view r = record { link = r.link; key = r.key.now }
