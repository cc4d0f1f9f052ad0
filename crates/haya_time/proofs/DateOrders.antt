-- The orders of dates.
use Rattle.std.proofs.Common.{◌≡◌, ℕ, ℤ, true, ◌⊎◌, inl, inr, Option, Some, None, refl, ap}
use Rattle.std.specs.Prelude.{is_some, IsSome, cond, nat_eq}
use Rattle.std.specs.declared.cmp.Ordering.{Ordering}
use Rattle.std.specs.declared.cmp.Ordering.TheVariants.{Less, Equal, Greater}
use Rattle.std.specs.Cmp.{signed_Decides, unsigned_Decides}
use Rattle.std.specs.Ordering.{int_cmp, is_eq, ordering_then, partial_ordering_then}
use Rattle.haya_time.specs.declared.date.Date.{Date}
use Rattle.haya_time.specs.DateEquality.{option-same}
use Rattle.haya_time.specs.DateOrder.{known_alike_cmp, date_partial_cmp, tie_cmp, OneAlone, HasNoOrder}
use Rattle.haya_time.specs.DateOrderLaws.{alike_equal}

-- five orders in a row, from the left or from the right
pub then-nested : (a b c d e : Ordering) → ordering_then (ordering_then (ordering_then (ordering_then a b) c) d) e ≡ ordering_then a (ordering_then b (ordering_then c (ordering_then d e)))
then-nested Less b c d e = refl
then-nested Greater b c d e = refl
then-nested Equal Less c d e = refl
then-nested Equal Greater c d e = refl
then-nested Equal Equal Less d e = refl
then-nested Equal Equal Greater d e = refl
then-nested Equal Equal Equal d e = refl

-- where two orders in a row have no answer
then-none : (p q : Option Ordering) → partial_ordering_then p q ≡ None → (p ≡ None) ⊎ ((p ≡ Some Equal) × (q ≡ None))
then-none None q h = inl refl
then-none (Some Less) q h = cc
then-none (Some Equal) q h = inr (refl, h)
then-none (Some Greater) q h = cc

alike-none : (p q : Option ℕ) → known_alike_cmp p q ≡ None → OneAlone p q
alike-none None None h = cc
alike-none None (Some n) h = λ e. cc
alike-none (Some m) None h = λ e. cc
alike-none (Some m) (Some n) h = cc

none-alike : (p q : Option ℕ) → OneAlone p q → known_alike_cmp p q ≡ None
none-alike None None h = absurd (h refl)
none-alike None (Some n) h = refl
none-alike (Some m) None h = refl
none-alike (Some m) (Some n) h = absurd (h refl)

alike-same : (p q : Option ℕ) → known_alike_cmp p q ≡ Some Equal → p ≡ q
alike-same p q h = (option-same nat_eq unsigned_Decides p q).0 ((alike_equal p q).1 h)

same-alike : (p q : Option ℕ) → p ≡ q → known_alike_cmp p q ≡ Some Equal
same-alike p q e = (alike_equal p q).0 ((option-same nat_eq unsigned_Decides p q).1 e)

years-same : (y z : ℤ) → Some (int_cmp y z) ≡ Some Equal → y ≡ z
years-same y z h = let e : int_cmp y z ≡ Equal = cc in (signed_Decides y z).0 (ap is_eq e)

equal-is : (o : Ordering) → is_eq o ≡ true → o ≡ Equal
equal-is Less h = cc
equal-is Equal h = refl
equal-is Greater h = cc

same-years : (y z : ℤ) → y ≡ z → int_cmp y z ≡ Equal
same-years y z e = equal-is (int_cmp y z) ((signed_Decides y z).1 e)

-- the days of months that are the same
days-alone : (m n d e : Option ℕ) → m ≡ n → OneAlone (cond (is_some m) d None) (cond (is_some n) e None) → IsSome m × OneAlone d e
days-alone None None d e h k = absurd (k refl)
days-alone None (Some n) d e h k = cc
days-alone (Some m) None d e h k = cc
days-alone (Some m) (Some n) d e h k = (refl, k)

alone-days : (m n d e : Option ℕ) → m ≡ n → IsSome m → OneAlone d e → OneAlone (cond (is_some m) d None) (cond (is_some n) e None)
alone-days None n d e h k o = cc
alone-days (Some m) None d e h k o = cc
alone-days (Some m) (Some n) d e h k o = o

-- three orders in a row, of years, of months and of the days of months
abbrev by_parts : ℤ → ℤ → Option ℕ → Option ℕ → Option ℕ → Option ℕ → Ordering → Option Ordering
by_parts y z m n d e t = partial_ordering_then (Some (int_cmp y z)) (partial_ordering_then (known_alike_cmp m n) (partial_ordering_then (known_alike_cmp (cond (is_some m) d None) (cond (is_some n) e None)) (Some t)))

abbrev Alone : Option ℕ → Option ℕ → Option ℕ → Option ℕ → Type 0
Alone m n d e = OneAlone m n ⊎ ((m ≡ n) × IsSome m × OneAlone d e)

days-none : (m n d e : Option ℕ) (t : Ordering) → m ≡ n → partial_ordering_then (known_alike_cmp (cond (is_some m) d None) (cond (is_some n) e None)) (Some t) ≡ None → Alone m n d e
days-none m n d e t s h = by_days (then-none (known_alike_cmp (cond (is_some m) d None) (cond (is_some n) e None)) (Some t) h)
  where
    by_days : (known_alike_cmp (cond (is_some m) d None) (cond (is_some n) e None) ≡ None) ⊎ ((known_alike_cmp (cond (is_some m) d None) (cond (is_some n) e None) ≡ Some Equal) × (Some t ≡ None)) → Alone m n d e
    by_days (inl f) = let two = days-alone m n d e s (alike-none _ _ f) in inr (s, two.0, two.1)
    by_days (inr f) = let g = f.1 in cc

months-none : (m n d e : Option ℕ) (t : Ordering) → partial_ordering_then (known_alike_cmp m n) (partial_ordering_then (known_alike_cmp (cond (is_some m) d None) (cond (is_some n) e None)) (Some t)) ≡ None → Alone m n d e
months-none m n d e t h = by_months (then-none (known_alike_cmp m n) _ h)
  where
    by_months : (known_alike_cmp m n ≡ None) ⊎ ((known_alike_cmp m n ≡ Some Equal) × (partial_ordering_then (known_alike_cmp (cond (is_some m) d None) (cond (is_some n) e None)) (Some t) ≡ None)) → Alone m n d e
    by_months (inl f) = inl (alike-none m n f)
    by_months (inr f) = days-none m n d e t (alike-same m n f.0) f.1

years-none : (y z : ℤ) (m n d e : Option ℕ) (t : Ordering) → by_parts y z m n d e t ≡ None → (y ≡ z) × Alone m n d e
years-none y z m n d e t h = by_years (then-none (Some (int_cmp y z)) _ h)
  where
    by_years : (Some (int_cmp y z) ≡ None) ⊎ ((Some (int_cmp y z) ≡ Some Equal) × (partial_ordering_then (known_alike_cmp m n) (partial_ordering_then (known_alike_cmp (cond (is_some m) d None) (cond (is_some n) e None)) (Some t)) ≡ None)) → (y ≡ z) × Alone m n d e
    by_years (inl f) = cc
    by_years (inr f) = (years-same y z f.0, months-none m n d e t f.1)

none-parts : (y z : ℤ) (m n d e : Option ℕ) (t : Ordering) → y ≡ z → Alone m n d e → by_parts y z m n d e t ≡ None
none-parts y z m n d e t s (inl o) = rw (same-years y z s, none-alike m n o) refl
none-parts y z m n d e t s (inr o) =
    rw (same-years y z s, same-alike m n o.0, none-alike (cond (is_some m) d None) (cond (is_some n) e None) (alone-days m n d e o.0 o.1 o.2)) refl

pub order-none : (x y : Date) → date_partial_cmp x y ≡ None → HasNoOrder x y
order-none x y = years-none x.year y.year x.month y.month x.day y.day (tie_cmp x y)

pub none-order : (x y : Date) → HasNoOrder x y → date_partial_cmp x y ≡ None
none-order x y h = none-parts x.year y.year x.month y.month x.day y.day (tie_cmp x y) h.0 h.1
