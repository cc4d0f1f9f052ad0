-- Where no entry has a key, none is taken out.
use Rattle.std.proofs.Common.{◌≡◌, ◌∷◌, [], Bool, List, None, Some, cond, false, true, ap, refl}
use Rattle.std.specs.Prelude.{Option, filter, find, not}

one_kept : {X : Type 0} (b : Bool) (x : X) (found : Option X) (kept xs : List X) → cond b (Some x) found ≡ None → (found ≡ None → kept ≡ xs) → cond (not b) (x ∷ kept) kept ≡ x ∷ xs
one_kept true x found kept xs none more = absurd (cc)
one_kept false x found kept xs none more = ap (λ l. x ∷ l) (more none)

pub not_there : {X : Type 0} (test : X → Bool) (xs : List X) → find test xs ≡ None → filter (λ x. not (test x)) xs ≡ xs
not_there test [] none = refl
not_there test (x ∷ xs) none = one_kept (test x) x (find test xs) (filter (λ y. not (test y)) xs) xs none (not_there test xs)
