-- The order that puts typed values first is total where that of the type is.
use Rattle.std.proofs.Common.{◌≡◌, refl}
use Rattle.std.specs.Cmp.{IsTotalOrder}
use Rattle.std.specs.Cmp.Lexicographic.{nat_list_cmp_total}
use Rattle.std.specs.Ordering.{ordering_reverse}
use Rattle.std.specs.declared.cmp.Ordering.{Ordering}
use Rattle.std.specs.declared.cmp.Ordering.TheVariants.{Less, Equal}
use Rattle.haya_values.specs.MaybeTyped.{TypedOrText, Typed, Text}
use Rattle.haya_values.specs.Order.{typed_first}

module _ {V : Type 0} {order : V → V → Ordering} (total : IsTotalOrder order) where
  antisymm : (x y : TypedOrText V) → typed_first order x y ≡ ordering_reverse (typed_first order y x)
  antisymm (Typed a) (Typed b) = total.antisymm a b
  antisymm (Typed a) (Text b) = refl
  antisymm (Text a) (Typed b) = refl
  antisymm (Text a) (Text b) = nat_list_cmp_total.antisymm a b

  trans : (x y z : TypedOrText V) → typed_first order x y ≡ Less → typed_first order y z ≡ Less → typed_first order x z ≡ Less
  trans (Typed a) (Typed b) (Typed c) h k = total.trans a b c h k
  trans (Typed a) y (Text c) h k = refl
  trans (Typed a) (Text b) (Typed c) h k = cc
  trans (Text a) (Typed b) z h k = cc
  trans (Text a) (Text b) (Typed c) h k = cc
  trans (Text a) (Text b) (Text c) h k = nat_list_cmp_total.trans a b c h k

  congr : (x y z : TypedOrText V) → typed_first order x y ≡ Equal → typed_first order x z ≡ typed_first order y z
  congr (Typed a) (Typed b) (Typed c) h = total.congr a b c h
  congr (Typed a) (Typed b) (Text c) h = refl
  congr (Typed a) (Text b) z h = cc
  congr (Text a) (Typed b) z h = cc
  congr (Text a) (Text b) (Typed c) h = refl
  congr (Text a) (Text b) (Text c) h = nat_list_cmp_total.congr a b c h

  pub typed_first-total : IsTotalOrder (typed_first order)
  typed_first-total = record { antisymm = antisymm; trans = trans; congr = congr }
