-- The entries of a list, taken one after another.
use Rattle.std.specs.Prelude.{◌≡◌, ℕ, List, Ok}
use Rattle.std.specs.List.{FoldsTo}
use Rattle.json.specs.Json.{Json, Items, no_items, item}
use Rattle.json.specs.Strict.{HasUniqueKeys}
use Rattle.haya_entry.specs.Tree.{Tree}
use Rattle.hayagriva.specs.Library.{AreDistinct}
use Rattle.haya_json.specs.Notes.{NotesView, all_kept}
use Rattle.haya_json.specs.Told.{told_alone}
use Rattle.haya_csl.specs.ItemLines.{Lists}
use Rattle.haya_csl.specs.Items.{item_of, item_said}
use Rattle.haya_csl.specs.Told.{TellsAsCsl}
use Rattle.haya_csl.specs.declared.item_key.ItemKey.{ItemKey}

-- The entries that a text lists are taken in turn. Where no key comes twice, this is kept of what is
-- told of the text.
pub record TakesList {T : Type 0} (takes : T → Tree → T → Type 0) (by : ItemKey) (text : List ℕ)
    (kept : NotesView) (before after : T) : Type 0 where
  pub entries : List Tree
  pub list : Lists by text entries
  pub told : AreDistinct entries → TellsAsCsl by text kept
  pub run : FoldsTo takes before entries after

-- ---- items

-- the entry that an item says is taken, and what is lost of the item is told
pub record TakesOne {T : Type 0} (takes : T → Tree → T → Type 0) (by : ItemKey) (j : Json)
    (noted kept : NotesView) (before after : T) : Type 0 where
  pub entry : Tree
  pub unique : HasUniqueKeys j
  pub said : item_of by j ≡ Ok entry
  pub told : kept ≡ all_kept (told_alone (item_said by j)) noted
  pub taken : takes before entry after

-- the same of items, one after another
abbrev pub TakesItems : {T : Type 0} → (T → Tree → T → Type 0) → ItemKey → Items → NotesView
    → NotesView → T → T → Type 0
TakesItems takes by no_items noted kept before after = (kept ≡ noted) × (after ≡ before)
TakesItems {T} takes by (item j js) noted kept before after =
    (between : NotesView) × (next : T) × TakesOne takes by j noted between before next
    × TakesItems takes by js between kept next after
