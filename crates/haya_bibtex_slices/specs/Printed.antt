-- What is printed of items.
use Rattle.std.specs.Prelude.{◌≡◌, ◌≢◌, ℕ, All, Contains, List, [], ◌++◌, Some, filter, map}
use Rattle.std.specs.List.{AllZip}
use Rattle.haya_bibtex.specs.Libraries.{DescribesAsBibtex}
use Rattle.hayagriva.specs.Library.{get, key_of}
use Rattle.hayagriva.specs.Query.{hit_entry}
use Rattle.hayagriva.specs.Tree.{Tree}
use Rattle.hayagriva.specs.declared.query.Hit.{Hit}
use Rattle.haya_bibtex_slices.specs.Items.{Item}
use Rattle.haya_bibtex_slices.specs.Texts.{is_definition, items_text}

-- the text, read as a `.bib` text, has the entry of each hit under its key
pub record SaysHits (text : List ℕ) (hits : List Hit) : Type 0 where
  pub library : List Tree
  pub describes : DescribesAsBibtex text library
  pub same : All (λ hit. get (key_of (hit_entry hit)) library ≡ Some (hit_entry hit)) hits

-- what is there after are the parts before, and behind them those of the hits' entries, in order,
-- which are among the items
pub record AddsPicked (items : List Item) (hits : List Hit) (before after : List (List ℕ))
    : Type 0 where
  pub picked : List Item
  pub among : All (Contains items) picked
  pub each : AllZip (λ hit item. item.key ≡ Some (key_of (hit_entry hit))) hits picked
  pub is : after ≡ before ++ map (λ i. i.part) picked

-- The text is of these items the definitions and preambles, then the entries of the hits, in order,
-- and then other items of them; and it says the hits.
pub record IsPickedText (items : List Item) (hits : List Hit) (text : List ℕ) : Type 0 where
  pub picked : List Item
  pub more : List Item
  pub among : All (Contains items) (picked ++ more)
  pub each : AllZip (λ hit item. item.key ≡ Some (key_of (hit_entry hit))) hits picked
  pub is : text ≡ items_text (map (λ i. i.part) (filter is_definition items ++ (picked ++ more)))
  pub says : SaysHits text hits

-- the same, but of no hit it is empty
pub record IsTextOf (items : List Item) (hits : List Hit) (text : List ℕ) : Type 0 where
  pub none : hits ≡ [] → text ≡ []
  pub some : hits ≢ [] → IsPickedText items hits text
