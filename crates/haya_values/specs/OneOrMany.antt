-- One or many values, by value.
use Rattle.std.specs.Prelude.{List, [], ◌∷◌, ◌++◌, option_map, map}
use Rattle.std.specs.Option.{option_to_list}
use Rattle.std.specs.Vec.Iter.{into_iter_items}
use Rattle.haya_values.specs.declared.one_or_many.OneOrMany.{OneOrMany}
use Rattle.haya_values.specs.declared.one_or_many.OneOrMany.TheVariants as one_or_many
use Rattle.haya_values.specs.declared.one_or_many.OneOrManyIter.{OneOrManyIter}

-- a value alone, or a list
pub data OneOrManyView (V : Type 0) : Type 0 where
  OneOf : V → OneOrManyView V
  ManyOf : List V → OneOrManyView V

-- each value as it is seen
abbrev pub one_or_many_view : {T V : Type 0} → (T → V) → OneOrMany T → OneOrManyView V
one_or_many_view view (one_or_many.One b) = OneOf (view b.value)
one_or_many_view view (one_or_many.Vec vs) = ManyOf (map view vs.items)

-- the values in order
abbrev pub items_of : {V : Type 0} → OneOrManyView V → List V
items_of (OneOf value) = value ∷ []
items_of (ManyOf values) = values

-- the values that an iterator has left
abbrev pub items_left : {T : Type 0} → OneOrManyIter T → List T
items_left it = option_to_list (option_map (λ b. b.value) it.alone) ++ into_iter_items it.rest
