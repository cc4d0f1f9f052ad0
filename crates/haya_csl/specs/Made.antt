-- What is made of items that are read one after another.
use Rattle.std.specs.Prelude.{◌≡◌, ◌↔◌, ℕ, ◌+◌, List, [], Option, None, Some, Ok, IsTrue, MatchOption}
use Rattle.json.specs.Json.{Json, Items, no_items, item, array, document}
use Rattle.json.specs.Strict.{ItemsHaveUniqueKeys}
use Rattle.json.specs.Token.{Token}
use Rattle.hayagriva.specs.Library.{push}
use Rattle.haya_entry.specs.Tree.{Tree}
use Rattle.haya_json.specs.Fields.{EntryView}
use Rattle.haya_json.specs.Notes.{NotesView, all_kept, kept_of, notes_view}
use Rattle.haya_json.specs.Refusal.{IsFaultOf, within, to_item}
use Rattle.haya_json.specs.Told.{told_of}
use Rattle.haya_json.specs.declared.error.ReadError.{ReadError}
use Rattle.haya_json.specs.declared.error.ReadError.TheVariants as error
use Rattle.haya_json.specs.declared.fault.ValueError.{ValueError}
use Rattle.haya_json.specs.declared.fault.ValueError.TheVariants as fault
use Rattle.haya_csl.specs.Items.{item_of, item_said}
use Rattle.haya_csl.specs.Libraries.{items_pushed}
use Rattle.haya_csl.specs.Told.{items_told}
use Rattle.haya_csl.specs.declared.item_key.ItemKey.{ItemKey}
use Rattle.haya_csl.specs.declared.turns.Made.{Made}

-- What a list gives is what was made of its items so far, and what those that are left give, the
-- first of which is at this place.
pub record IsMadeBut (by : ItemKey) (left list : Items) (place : ℕ) (made : Made) : Type 0 where
  pub unique : ItemsHaveUniqueKeys list ↔ (IsTrue made.are_unique × ItemsHaveUniqueKeys left)
  pub entries : MatchOption made.fault
      (items_pushed by [] 0 list ≡ items_pushed by made.library place left)
      (IsFaultOf (items_pushed by [] 0 list))
  pub notes : made.fault ≡ None →
      kept_of (items_told by [] list)
      ≡ all_kept (items_told by made.library left) (notes_view made.notes)

-- the same of a list that is read from tokens, and of what is left of it
abbrev pub IsMadeOf : ItemKey → Option (Items × List Token) → Option (Items × List Token) → ℕ → Made
    → Type 0
IsMadeOf by None list place made = list ≡ None
IsMadeOf by (Some left) list place made =
    (js : Items) × (list ≡ Some (js, left.1)) × IsMadeBut by left.0 js place made

-- the same of all items of the list that a text is
pub record IsMadeOfText (by : ItemKey) (text : List ℕ) (made : Made) : Type 0 where
  pub list : Items
  pub place : ℕ
  pub parsed : document text ≡ Some (array list)
  pub of_all : IsMadeBut by no_items list place made

-- nothing was made so far
abbrev pub IsMadeOfNone : Made → Type 0
IsMadeOfNone made = (by : ItemKey) (items : Items) → IsMadeBut by items items 0 made

-- one more item is taken
abbrev pub TakesItem : ItemKey → Json → ℕ → Made → Made → Type 0
TakesItem by j place old new =
    (left list : Items) →
    IsMadeBut by (item j left) list place old → IsMadeBut by left list (place + 1) new

-- the entry of an item is pushed, and what is lost of the item is told
pub record PushesItem (by : ItemKey) (j : Json) (old new : List Tree) (noted notes : NotesView)
    : Type 0 where
  pub view : EntryView
  pub said : item_said by j ≡ Ok view
  pub pushed : new ≡ push view.entry old
  pub told : notes ≡ all_kept (told_of old view) noted

abbrev pub MakesOne : ItemKey → Json → Made → Made → Type 0
MakesOne by j old new =
    PushesItem by j old.library new.library (notes_view old.notes) (notes_view new.notes)

-- One more item is taken: its entry is made, or why it is refused is kept. After that nothing is
-- made.
abbrev pub MakesEntry : ItemKey → Json → ℕ → Made → Made → Type 0
MakesEntry by j place old new =
    MatchOption old.fault
    (MatchOption new.fault (MakesOne by j old new)
    (IsFaultOf (within (to_item place) (item_of by j))))
    (λ f. new.fault ≡ Some f)

-- what is told of a text where an item has this fault
abbrev pub IsErrorWith : ValueError → ReadError → Type 0
IsErrorWith (fault.Refused path why) e = e ≡ error.Refused path why
IsErrorWith fault.OutOfMemory e = e ≡ error.OutOfMemory
