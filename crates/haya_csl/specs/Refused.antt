-- Why a library in CSL-JSON is refused.
use Rattle.std.specs.Prelude.{◌≡◌, ◌⊎◌, ℕ, List, codes}
use Rattle.haya_json.specs.Refusal.{Refusal, from_outside, here, to_item, to_member}
use Rattle.haya_json.specs.declared.fault.Why.TheVariants.{Missing, NotList, NotObject, NotText}

-- the refusal of a member's value
abbrev pub in_member : List ℕ → Refusal → Refusal
in_member name r = from_outside (to_member name) r

-- An item is refused that is no object, or whose `id` is missing, or no text.
abbrev pub RefusesItem : Refusal → Type 0
RefusesItem r =
    (r ≡ here NotObject)
    ⊎ ((r ≡ in_member (codes "id") (here Missing)) ⊎ (r ≡ in_member (codes "id") (here NotText)))

-- the same of one of the items of a list
pub record RefusesItemOf (r : Refusal) : Type 0 where
  pub place : ℕ
  pub of_item : Refusal
  pub refuses : RefusesItem of_item
  pub same : r ≡ from_outside (to_item place) of_item

-- a list of items is refused that is no list, or has such an item
abbrev pub RefusesList : Refusal → Type 0
RefusesList r = (r ≡ here NotList) ⊎ RefusesItemOf r

-- the same of a list that is the `items` of an object
pub record RefusesItems (r : Refusal) : Type 0 where
  pub of_list : Refusal
  pub refuses : RefusesList of_list
  pub same : r ≡ in_member (codes "items") of_list

-- a library is refused whose list of items is
abbrev pub RefusesLibrary : Refusal → Type 0
RefusesLibrary r = RefusesList r ⊎ RefusesItems r
