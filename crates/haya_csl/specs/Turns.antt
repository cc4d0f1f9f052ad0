-- The items of a list, read one after another.
use Rattle.std.specs.Prelude.{List, Option, None, Some, length, option_and_then}
use Rattle.json.specs.Json.{Json, Items, array, no_items, item, items, value, parse_map, if_last}
use Rattle.json.specs.Token.{Token}

-- the items of a list whose bracket was read, and the tokens behind it; none where it is no list
abbrev pub items_left : List Token → Option (Items × List Token)
items_left ts = items (value 127) (length ts) ts

-- the same, by the first item and the tokens that are left; without an item, the list ends
abbrev pub first_and_left : Option Json → List Token → Option (Items × List Token)
first_and_left None ts = Some (no_items, ts)
first_and_left (Some j) ts = parse_map (item j) (items_left ts)

-- the document that is a list, where nothing follows it
abbrev pub list_document : Option (Items × List Token) → Option Json
list_document whole = option_and_then (λ l. if_last (array l.0) l.1) whole
