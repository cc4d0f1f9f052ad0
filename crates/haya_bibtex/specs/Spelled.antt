-- Entries of a text by their bytes.
use Rattle.std.specs.Prelude.{map, encode_utf8_all}
use Rattle.haya_bibtex_text.specs.Bibliography.{EntryTexts, FieldText}
use Rattle.haya_bibtex_inherited.specs.Entries.{EntryBytes, FieldBytes}

-- characters in UTF-8
abbrev pub field_spelled : FieldText → FieldBytes
field_spelled f = record { name = encode_utf8_all f.name; text = encode_utf8_all f.text }

abbrev pub entry_spelled : EntryTexts → EntryBytes
entry_spelled e = record {
  kind = encode_utf8_all e.kind;
  key = encode_utf8_all e.key;
  fields = map field_spelled e.fields;
}
