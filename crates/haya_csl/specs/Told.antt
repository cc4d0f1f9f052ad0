-- What is told of a library in CSL-JSON: keys that come again, and what is lost of the items.
use Rattle.std.specs.Prelude.{◌≡◌, ℕ, List, [], Option, None, Some, codes, IsSomeAnd}
use Rattle.json.specs.Json as json
use Rattle.json.specs.Json.{Json, Items, document}
use Rattle.haya_entry.specs.Tree.{Tree}
use Rattle.haya_json.specs.Notes.{NoteView, NotesView, kept_of}
use Rattle.haya_json.specs.Parts.{member_of}
use Rattle.haya_json.specs.Told.{told_first}
use Rattle.haya_csl.specs.Items.{item_said}
use Rattle.haya_csl.specs.declared.item_key.ItemKey.{ItemKey}

-- what is told of items, in the order of the text
abbrev pub items_told : ItemKey → List Tree → Items → List NoteView
items_told by library json.no_items = []
items_told by library (json.item j js) =
    told_first library (item_said by j) (λ more. items_told by more js)

abbrev pub list_told : ItemKey → Json → List NoteView
list_told by (json.array js) = items_told by [] js
list_told by _ = []

abbrev pub list_in_told : ItemKey → Option Json → List NoteView
list_in_told by None = []
list_in_told by (Some j) = list_told by j

-- of the list of items that a value is, or has as its `items`
abbrev pub told : ItemKey → Json → List NoteView
told by (json.object ms) = list_in_told by (member_of (codes "items") (json.object ms))
told by j = list_told by j

-- this is kept of what is told of the library that a text says
abbrev pub TellsAsCsl : ItemKey → List ℕ → NotesView → Type 0
TellsAsCsl by text kept = IsSomeAnd (document text) (λ j. kept ≡ kept_of (told by j))
