-- The entries that a text lists, an item a line.
use Rattle.std.specs.Prelude.{◌≡◌, ℕ, List, [], ◌∷◌, Option, Some, flat_map, Ok, Result, ⊤}
use Rattle.std.specs.List.{AllZip}
use Rattle.std.specs.Option.{option_map_or}
use Rattle.std.specs.Str.Lines.{lines}
use Rattle.json.specs.Json.{Items, Json, array, document, item, no_items}
use Rattle.json.specs.Lex.{tokens}
use Rattle.json.specs.Strict.{HasUniqueKeys, ItemsHaveUniqueKeys}
use Rattle.haya_json_elements.specs.Elements.{IsItem, element_lines, elements, nonempty_lines}
use Rattle.haya_json_elements.specs.declared.place.Brackets.TheVariants.{Square}
use Rattle.haya_entry.specs.Tree.{Tree}
use Rattle.haya_json.specs.Alone.{value_alone}
use Rattle.haya_json.specs.Libraries.{IsErrorOfJson}
use Rattle.haya_json.specs.Notes.{NoteView, NotesView, kept_of}
use Rattle.haya_json.specs.Refusal.{Refusal, to_item, within}
use Rattle.haya_json.specs.Told.{told_alone}
use Rattle.haya_json.specs.declared.error.ReadError.{ReadError}
use Rattle.haya_csl.specs.Items.{item_of, item_said}
use Rattle.haya_csl.specs.declared.item_key.ItemKey.{ItemKey}

-- ---- one line

-- the item that a line is
abbrev pub item_in : List ℕ → Option Json
item_in line = value_alone (tokens line)

-- The line is an item in which no object has a name twice, and it says the entry.
pub record IsItemLineOf (by : ItemKey) (line : List ℕ) (entry : Tree) : Type 0 where
  pub value : Json
  pub parsed : IsItem line value
  pub unique : HasUniqueKeys value
  pub read : item_of by value ≡ Ok entry

-- the entry of the item at this place
abbrev pub item_at : ItemKey → ℕ → Json → Result Tree Refusal
item_at by place j = within (to_item place) (item_of by j)

-- what an error says of a line, whose item is at this place
abbrev pub IsItemLineErrorOf : ItemKey → ℕ → List ℕ → ReadError → Type 0
IsItemLineErrorOf by place line error = IsErrorOfJson (item_at by place) (item_in line) error

-- What is told of a line: what is lost of its item. A key that comes again isn't looked for.
abbrev pub line_told : ItemKey → List ℕ → List NoteView
line_told by line = option_map_or (λ j. told_alone (item_said by j)) (item_in line) []

-- ---- lines

-- what is told of the items of lines
abbrev pub lines_told : ItemKey → List (List ℕ) → List NoteView
lines_told by ls = flat_map (line_told by) (nonempty_lines ls)

-- ---- a text

-- The items of a text, each on a line of its own, say these entries, in order, repeated keys and
-- all. This is kept of what is told of them.
pub record LinesList (by : ItemKey) (text : List ℕ) (entries : List Tree) (kept : NotesView)
    : Type 0 where
  pub each : AllZip (IsItemLineOf by) (elements Square text) entries
  pub notes : kept ≡ kept_of (lines_told by (lines (element_lines Square text)))

-- each item says an entry
abbrev pub ItemsSay : ItemKey → Items → List Tree → Type 0
ItemsSay by no_items [] = ⊤
ItemsSay by no_items (t ∷ ts) = ⊥
ItemsSay by (item j js) [] = ⊥
ItemsSay by (item j js) (t ∷ ts) = (item_of by j ≡ Ok t) × ItemsSay by js ts

-- The text is an array in JSON. No object in an item of it has a name twice, and its items say
-- these entries, in order, repeated keys and all.
pub record Lists (by : ItemKey) (text : List ℕ) (entries : List Tree) : Type 0 where
  pub items : Items
  pub parsed : document text ≡ Some (array items)
  pub unique : ItemsHaveUniqueKeys items
  pub read : ItemsSay by items entries
