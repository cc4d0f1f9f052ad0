-- Numbers by value.
use Rattle.std.specs.Prelude.{ℕ, ℤ, List, [], ◌∷◌, Option, None, Some, option_map, Bool, true, false, Box, String, string_bytes, pos, ◌&&◌, ◌==◌, not, length}
use Rattle.std.specs.Ordering.{int_cmp, int_eq}
use Rattle.std.specs.Cmp.Lexicographic.{slice_cmp}
use Rattle.std.specs.declared.cmp.Ordering.{Ordering}
use Rattle.haya_numbers.specs.declared.numeric.NumericDelimiter.TheVariants.{Hyphen}
use Rattle.std.specs.declared.alloc.Global.{Global}
use Rattle.haya_numbers.specs.declared.numeric.Numeric.{Numeric}
use Rattle.haya_numbers.specs.declared.numeric.NumericError.{NumericError}
use Rattle.haya_numbers.specs.declared.numeric.NumericError.TheVariants.{OutOfMemory}
use Rattle.haya_numbers.specs.declared.numeric.NumericValue.{NumericValue}
use Rattle.haya_numbers.specs.declared.numeric.NumericValue.TheVariants as value
pub use Rattle.haya_numbers.specs.Numbers.{Item}
use Rattle.haya_numbers.specs.Numbers.{numbers_of}

-- one number, or a set of numbers
pub data ValueView : Type 0 where
  Single : ℤ → ValueView
  SetOf : List Item → ValueView

-- a number or a set, with the bytes of what stands before and after it
pub record NumericView : Type 0 where
  pub value : ValueView
  pub prefix : Option (List ℕ)
  pub suffix : Option (List ℕ)

abbrev pub value_view : NumericValue → ValueView
value_view (value.Number n) = Single n
value_view (value.Set set) = SetOf set.items

abbrev pub affix_view : Option (Box (String Global) Global) → Option (List ℕ)
affix_view a = option_map (λ b. string_bytes b.value) a

abbrev pub numeric_view : Numeric → NumericView
numeric_view n = record {
  value = value_view n.value;
  prefix = affix_view n.prefix;
  suffix = affix_view n.suffix;
}

-- the numbers of a value, in order
abbrev pub numbers : ValueView → List ℤ
numbers (Single n) = n ∷ []
numbers (SetOf items) = numbers_of items

-- The order of two values: by the first numbers that differ; of two that begin
-- alike the shorter is first.
abbrev pub value_order : ValueView → ValueView → Ordering
value_order v w = slice_cmp int_cmp (numbers v) (numbers w)

abbrev pub csl_order : NumericView → NumericView → Ordering
csl_order m n = value_order m.value n.value

-- a number alone, without affixes
abbrev pub without_affixes : ValueView → NumericView
without_affixes v = record { value = v; prefix = None; suffix = None }

-- the set of a start and an end
abbrev pub range_view : ℤ → ℤ → ValueView
range_view start end = SetOf ((start, Some Hyphen) ∷ (end, None) ∷ [])

-- a number of things is plural unless it is 1, a set unless it has exactly one number
abbrev pub is_plural : Bool → ValueView → Bool
is_plural is_number_of (Single n) = is_number_of && not (int_eq n (pos 1))
is_plural is_number_of (SetOf items) = not (length items == 1)

-- one number without affixes
abbrev pub single_number : NumericView → Option ℤ
single_number n = alone n.value n.prefix n.suffix
  where
    alone : ValueView → Option (List ℕ) → Option (List ℕ) → Option ℤ
    alone (Single n) None None = Some n
    alone _ _ _ = None

-- the fault that says nothing of the text
abbrev pub is_memory : NumericError → Bool
is_memory OutOfMemory = true
is_memory _ = false
