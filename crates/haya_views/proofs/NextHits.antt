-- The hits of a library from a place on.
use Rattle.std.proofs.Common.{◌≡◌, ◌+◌, ◌<◌, inl, inr, ℕ, suc, false, true, cond, List, ◌∷◌, Some, length, ap, subst, ◌∙◌, add-one, arith}
use Rattle.std.specs.Prelude.{IfSome, IsSomeAnd, filter, slice_get}
use Rattle.std.proofs.lemmas.Option.{slice_get_cases}
use Rattle.haya_entry.proofs.LevelLemmas.{from_place}
use Rattle.haya_entry.specs.Tree.{Tree}
use Rattle.haya_selectors.specs.Holds.{holds}
use Rattle.haya_selectors.specs.Syntax.{Syntax}
use Rattle.haya_views.specs.Hits.{hits_from}

module _ (s : Syntax) (library : List Tree) (n : ℕ) where
  -- one entry and those behind it
  split_at : (x : Tree) → slice_get library n ≡ Some x → hits_from s library n ≡ cond (holds s x) (x ∷ hits_from s library (suc n)) (hits_from s library (suc n))
  split_at x e = ap (filter (holds s)) (from_place library n x e)

  -- an entry where the selector doesn't hold
  pub missed : n < length library → IfSome (slice_get library n) (λ x. holds s x ≡ false) → hits_from s library n ≡ hits_from s library (n + 1)
  missed within h = elim (slice_get_cases library n).1 [
    | inl w ↦
        (let no : holds s w.0 ≡ false = subst (λ o. IfSome o (λ x. holds s x ≡ false)) w.2 h in
        rw add-one (split_at w.0 w.2 ∙ ap (λ b. cond b (w.0 ∷ hits_from s library (suc n)) (hits_from s library (suc n))) no))
    | inr past ↦ absurd (omega (arith, within, past.0))
  ]

  -- an entry where it holds, and what else is said of it
  pub found : (P : Tree → Type 0) → IsSomeAnd (slice_get library n) (λ x. (holds s x ≡ true) × P x)
      → (x : Tree) × (slice_get library n ≡ Some x) × (hits_from s library n ≡ x ∷ hits_from s library (n + 1)) × P x
  found P h = elim (slice_get_cases library n).1 [
    | inl w ↦
        (let is : (holds s w.0 ≡ true) × P w.0 = subst (λ o. IsSomeAnd o (λ x. (holds s x ≡ true) × P x)) w.2 h in
        (w.0, w.2, rw add-one (split_at w.0 w.2 ∙ ap (λ b. cond b (w.0 ∷ hits_from s library (suc n)) (hits_from s library (suc n))) is.0), is.1))
    | inr past ↦ absurd (subst (λ o. IsSomeAnd o (λ x. (holds s x ≡ true) × P x)) past.1 h)
  ]
