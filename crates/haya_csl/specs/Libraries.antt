-- The library that a text says in CSL-JSON.
use Rattle.std.specs.Prelude.{◌≡◌, ℕ, ◌+◌, List, [], Option, None, Some, Result, Ok, codes}
use Rattle.json.specs.Json as json
use Rattle.json.specs.Json.{Json, Items, document}
use Rattle.json.specs.Strict.{HasUniqueKeys}
use Rattle.haya_entry.specs.Tree.{Tree}
use Rattle.hayagriva.specs.Library.{push}
use Rattle.haya_json.specs.Libraries.{IsErrorOfReading}
use Rattle.haya_json.specs.Refusal.{Refusal, refused, within, and_then, to_item, to_member}
use Rattle.haya_json.specs.Parts.{member_of}
use Rattle.haya_json.specs.declared.fault.Why.TheVariants.{NotList}
use Rattle.haya_json.specs.declared.error.ReadError.{ReadError}
use Rattle.haya_csl.specs.Items.{item_of}
use Rattle.haya_csl.specs.declared.item_key.ItemKey.{ItemKey}

-- The library after the entries of items are pushed, the first of which is at this place. An entry
-- whose key comes again takes the place of the earlier one.
abbrev pub items_pushed : ItemKey → List Tree → ℕ → Items → Result (List Tree) Refusal
items_pushed by library n json.no_items = Ok library
items_pushed by library n (json.item j js) =
    and_then (within (to_item n) (item_of by j)) (λ t.
    items_pushed by (push t library) (n + 1) js)

-- a list of items
abbrev pub list_of : ItemKey → Json → Result (List Tree) Refusal
list_of by (json.array js) = items_pushed by [] 0 js
list_of by _ = refused NotList

abbrev pub list_in : ItemKey → Option Json → Result (List Tree) Refusal
list_in by None = refused NotList
list_in by (Some j) = within (to_member (codes "items")) (list_of by j)

-- the library that a value says: a list of items, or an object that has it as its `items`
abbrev pub csl_library_of : ItemKey → Json → Result (List Tree) Refusal
csl_library_of by (json.object ms) = list_in by (member_of (codes "items") (json.object ms))
csl_library_of by j = list_of by j

-- the text is JSON in which no object has a name twice, and it says this library in CSL-JSON
pub record DescribesAsCsl (by : ItemKey) (text : List ℕ) (library : List Tree) : Type 0 where
  pub value : Json
  pub parsed : document text ≡ Some value
  pub unique : HasUniqueKeys value
  pub read : csl_library_of by value ≡ Ok library

-- what an error says of a text
abbrev pub IsCslErrorOf : ItemKey → List ℕ → ReadError → Type 0
IsCslErrorOf by text error = IsErrorOfReading (csl_library_of by) text error
