-- Serial numbers by value: texts under keys.
use Rattle.std.specs.Prelude.{ℕ, List, [], ◌++◌, Option, None, Some, map, option_map}
use Rattle.std.specs.Prelude.{String, string_bytes}
use Rattle.std.specs.Option.{option_to_list}
use Rattle.std.specs.BTreeMap.{insert_entry}
use Rattle.std.specs.Cmp.Lexicographic.{slice_cmp}
use Rattle.std.specs.Map.{lookup}
use Rattle.std.specs.Ordering.{nat_cmp}
use Rattle.std.specs.Str.{bytes_eq}
use Rattle.haya_entry.specs.declared.serial_number.SerialNumber.{SerialNumber}

-- keys with their texts, in the order of the keys
abbrev pub Serials : Type 0
Serials = List (List ℕ × List ℕ)

-- a key and its text, as bytes
abbrev pub serial_entry : {B : Type 0} → String B × String B → List ℕ × List ℕ
serial_entry e = (string_bytes e.0, string_bytes e.1)

-- the only one, where there is one
abbrev pub only_serial : SerialNumber → Option (List ℕ × List ℕ)
only_serial s = option_map serial_entry s.only

-- all, where there is none or more than one
abbrev pub several_serials : SerialNumber → Serials
several_serials s = map serial_entry s.several.entries

-- the value of serial numbers
abbrev pub serial_view : SerialNumber → Serials
serial_view s = option_to_list (only_serial s) ++ several_serials s

-- the text that is kept under a key
abbrev pub serial_text : List ℕ → Option Serials → Option (List ℕ)
serial_text key None = None
serial_text key (Some serials) = lookup (bytes_eq key) serials

-- the serial numbers with this text under the key, in the place of the one that was there
abbrev pub with_serial : List ℕ → List ℕ → Option Serials → Serials
with_serial key text None = insert_entry (slice_cmp nat_cmp) [] key text
with_serial key text (Some serials) = insert_entry (slice_cmp nat_cmp) serials key text
