-- What a line says: an entry but for its parents, and how deep it stands.
use Rattle.std.specs.Prelude.{ℕ, Bool, ◌&&◌, nat_lt, nat_le, List, [], ◌∷◌, length, Option, None, Some, ok_or, Result, Ok, Err, if◌then◌else◌}
use Rattle.std.specs.Char.{is_ascii_digit}
use Rattle.std.specs.List.{list_all}
use Rattle.std.specs.Str.Parse.{digits_value}
use Rattle.haya_entry.specs.EntryType.{type_read}
use Rattle.haya_entry.specs.Tree.{Tree, Fields, node, no_trees, fields, new_entry}
use Rattle.haya_lines.specs.FieldTable.{and_then, cut_at, with_field}
use Rattle.haya_lines.specs.Signs.{equals_sign}
use Rattle.haya_lines.specs.declared.error.LineError.{LineError}
use Rattle.haya_lines.specs.declared.error.LineError.TheVariants.{Shape, Depth, UnknownType}

-- one to three digits, for a depth of at most 500 that is no deeper than this
abbrev pub is_depth : ℕ → List ℕ → Bool
is_depth deepest item =
    list_all is_ascii_digit item && (nat_lt 0 (length item) && (nat_lt (length item) 4
    && (nat_le (digits_value 10 item) 500 && nat_le (digits_value 10 item) deepest)))

abbrev pub depth_read : ℕ → List ℕ → Option ℕ
depth_read deepest item = if is_depth deepest item then Some (digits_value 10 item) else None

-- a name and a value, separated by the first `=`
abbrev pub name_and_value : List ℕ → Option (List ℕ × List ℕ)
name_and_value item = cut_at equals_sign item

-- the fields after the item's is set, or its fault
abbrev pub field_read : Fields → List ℕ → Result Fields LineError
field_read f item =
    and_then (ok_or (name_and_value item) Shape) (λ field. with_field field.0 field.1 f)

-- the fields after those of all items are set in turn, or the first fault
abbrev pub fields_read : Fields → List (List ℕ) → Result Fields LineError
fields_read f [] = Ok f
fields_read f (item ∷ more) = and_then (field_read f item) (λ g. fields_read g more)

-- an entry but for its parents, at a depth
pub record Row : Type 0 where
  pub depth : ℕ
  pub fields : Fields

-- the row of a depth and of the fields that are read
abbrev pub row_at : ℕ → Result Fields LineError → Result Row LineError
row_at d read = and_then read (λ f. Ok (record { depth = d; fields = f }))

-- the row that items make, or their first fault
abbrev pub row_read : ℕ → List (List ℕ) → Result Row LineError
row_read deepest (depth ∷ key ∷ kind ∷ more) =
    and_then (ok_or (depth_read deepest depth) Depth) (λ d.
    and_then (ok_or (type_read kind) UnknownType) (λ k.
    row_at d (fields_read (fields (new_entry key k)) more)))
row_read deepest _ = Err Shape

-- an entry with no parents
abbrev pub leaf : Fields → Tree
leaf f = node f no_trees
