-- Items by value.
use Rattle.std.specs.Prelude.{option_map, string_bytes}
use Rattle.haya_bibtex_slices.specs.Items.{Item}
use Rattle.haya_bibtex_slices.specs.declared.item.BibtexItem.{BibtexItem}

abbrev pub item_view : BibtexItem → Item
item_view i =
    record { part = i.text.now; key = option_map (λ e. string_bytes e.key) i.entry }
