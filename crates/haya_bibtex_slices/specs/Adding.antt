-- Parts of items, put behind others.
use Rattle.std.specs.Prelude.{◌≡◌, ℕ, All, Contains, List, [], ◌∷◌, ◌++◌, Some, map}
use Rattle.haya_bibtex_slices.specs.Items.{Item}

-- what is there after are the parts before, and behind them those of some of the items
pub record AddsSome (items : List Item) (before after : List (List ℕ)) : Type 0 where
  pub more : List Item
  pub among : All (Contains items) more
  pub is : after ≡ before ++ map (λ i. i.part) more

-- the same of one of them, an entry with the key
pub record AddsCalled (items : List Item) (key : List ℕ) (before after : List (List ℕ))
    : Type 0 where
  pub item : Item
  pub among : Contains items item
  pub named : item.key ≡ Some key
  pub is : after ≡ before ++ item.part ∷ []
