-- Items and openings by value.
use Rattle.std.specs.Prelude.{map}
use Rattle.haya_bibtex_text.specs.FieldViews.{field_view}
use Rattle.haya_bibtex_text.specs.Items.{RawItem, entry, sign, strings}
use Rattle.haya_bibtex_text.specs.Openings.{Opening}
use Rattle.haya_bibtex_text.specs.declared.items.Item.{Item}
use Rattle.haya_bibtex_text.specs.declared.items.Item.TheVariants.{Sign, Strings, Entry}
use Rattle.haya_bibtex_text.specs.declared.items.WrittenEntry.{WrittenEntry}
use Rattle.haya_bibtex_text.specs.declared.opening.Opening.{Opening as OpeningOf}

abbrev pub written_view : WrittenEntry → RawItem
written_view e = entry e.kind.now e.key.now (map field_view e.fields.items)

abbrev pub item_view : Item → RawItem
item_view Sign = sign
item_view (Strings fs) = strings (map field_view fs.items)
item_view (Entry e) = written_view e

abbrev pub opening_view : OpeningOf → Opening
opening_view o = record { kind = o.kind.now; close = o.close; rest = o.rest.now }
