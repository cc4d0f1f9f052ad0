-- Entries and fields after JSON was read, and what is lost of it, by value.
use Rattle.std.specs.Prelude.{List, Option, map, option_map}
use Rattle.haya_entry.specs.Tree.{view}
use Rattle.haya_entry.specs.declared.entry.Entry.{Entry}
use Rattle.haya_json.specs.Entries.{ParentsView}
use Rattle.haya_json.specs.Fields.{EntryView, FieldView}
use Rattle.haya_json.specs.Notes.{losts_view}
use Rattle.haya_json.specs.declared.entries.Parents.{Parents}
use Rattle.haya_json.specs.declared.notes.Lost.{Lost}
use Rattle.haya_json.specs.declared.told.Reading.{Reading}

abbrev pub field_view : {T V : Type 0} → (T → V) → Option T → List Lost → FieldView V
field_view of field lost = record { after = option_map of field; lost = losts_view lost }

abbrev pub entry_view : Entry → List Lost → EntryView
entry_view entry lost = record { entry = view entry; lost = losts_view lost }

abbrev pub reading_view : Reading → EntryView
reading_view r = entry_view r.entry r.lost.items

abbrev pub parents_view : Parents → ParentsView
parents_view ps = record { entries = map view ps.entries.items; lost = losts_view ps.lost.items }
