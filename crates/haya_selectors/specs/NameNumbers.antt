-- Sets of fields, as the bits of a number: a field's bit is that of its place in the enum.
use Rattle.std.specs.Prelude.{◌≡◌, ◌≢◌, ◌↔◌, ℕ, Bool, true, false, List}
use Rattle.std.specs.Int.{bit_at}
use denote.Enum.Declared.{tag_of}
use Rattle.haya_entry.specs.contracts.field_name.FieldName.{the_type}
use Rattle.haya_entry.specs.declared.field_name.FieldName.{FieldName}
use Rattle.haya_entry.specs.Names.{has_all, has_field}
use Rattle.haya_entry.specs.Tree.{Tree}

-- the place of a field in the enum, from 0 on
abbrev pub place_of : FieldName → ℕ
place_of field = tag_of the_type field

-- the field is in the set
abbrev pub IsIn : FieldName → ℕ → Type 0
IsIn field set = bit_at set (place_of field) ≡ 1

-- the sets have the same fields but for this one
abbrev pub SameOthers : FieldName → ℕ → ℕ → Type 0
SameOthers field old new = (other : FieldName) → other ≢ field → IsIn other new ↔ IsIn other old

-- the entry has each field of the set
abbrev pub HasFields : Tree → ℕ → Type 0
HasFields x set = (field : FieldName) → IsIn field set → has_field x field ≡ true

-- a set, with a mark that says whether a name is that of no field, holds at an entry exactly where
-- the entry has every name
abbrev pub StandsForNames : ℕ → Bool → List (List ℕ) → Type 0
StandsForNames set unknown names =
    (x : Tree) → (has_all names x ≡ true) ↔ ((unknown ≡ false) × HasFields x set)

-- of the fields that were asked for, the set holds exactly those that the entry has
abbrev pub IsHad : Tree → ℕ → ℕ → Type 0
IsHad x asked had =
    (field : FieldName) → IsIn field asked → IsIn field had ↔ (has_field x field ≡ true)
