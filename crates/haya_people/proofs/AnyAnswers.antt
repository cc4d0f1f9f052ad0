-- What is answered of some item of two lists.
use Rattle.std.proofs.Common.{◌≡◌, ℕ, ◌+◌, ◌-◌, Bool, true, false, List, ◌++◌, length, refl, inl, inr, arith, length-append}
use Rattle.std.specs.Prelude.{Option, None, Some, unwrap_or}
use Rattle.std.specs.Borrow.{Bor}
use Rattle.std.specs.Option.{option_copied}
use Rattle.std.specs.List.{IsAnyAnswer}
use Rattle.std.proofs.lemmas.Bool.{cases_lt}
use Rattle.std.proofs.lemmas.List.{get_or_append_left, get_or-append-add, get_or-append_right}

module _ {X : Type 0} (E : X → Bool → Type 0) where
  pub some-left : (xs ys : List X) → IsAnyAnswer E xs true → IsAnyAnswer E (xs ++ ys) true
  some-left xs ys (k, lt, h) = (k, omega (arith, length-append xs ys), λ d. rw (get_or_append_left xs ys d k lt) (h d))

  pub any-append : (xs ys : List X) (b : Bool) → IsAnyAnswer E xs false → IsAnyAnswer E ys b → IsAnyAnswer E (xs ++ ys) b
  any-append xs ys true h (k, lt, at) = (length xs + k, omega (arith, length-append xs ys), λ d. rw (get_or-append-add xs ys k d) (at d))
  any-append xs ys false h g = λ k d low lt.
      elim (cases_lt k (length xs)) [
        | inl inside ↦ rw (get_or_append_left xs ys d k inside) (h k d low inside)
        | inr behind ↦ rw (get_or-append_right xs ys (length xs) k d refl behind) (g (k - length xs) d (omega arith) (omega (arith, length-append xs ys)))
      ]

  -- the answer of the first list is yes, so it is that of both
  pub either-left : (xs ys zs : List X) (a : Bool) → a ≡ true → zs ≡ xs ++ ys → IsAnyAnswer E xs a → IsAnyAnswer E zs a
  either-left xs ys zs true said e h = rw e (some-left xs ys h)
  either-left xs ys zs false said e h = cc

  -- the answer of the first list is no, so that of the second is that of both
  pub either-right : (xs ys zs : List X) (a b : Bool) → a ≡ false → zs ≡ xs ++ ys → IsAnyAnswer E xs a → IsAnyAnswer E ys b → IsAnyAnswer E zs b
  either-right xs ys zs true b said e h g = cc
  either-right xs ys zs false b said e h g = rw e (any-append xs ys b h g)

pub lent_or : (o : Option (Bor (List ℕ))) (d : Bor (List ℕ)) → (unwrap_or o d).now ≡ unwrap_or (option_copied o) d.now
lent_or None d = refl
lent_or (Some x) d = refl
